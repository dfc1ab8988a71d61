-- Data of a form say one thing.
use Rattle.std.proofs.Common.{◌≡◌, ℕ, List, [], ◌++◌, sym, refl, ap, ◌∙◌, Bool, true, false, Option, Some, None, subst}
use Rattle.uefi_path.specs.Laws.{OneFront}
use Rattle.uefi_path.specs.Node.{joined}
use Rattle.uefi_path.specs.Path.{IsPath}
use Rattle.tcg_event.specs.Blob.{IsBlob, IsDescribedBlob, blob_bytes, described_bytes}
use Rattle.tcg_event.specs.Gpt.{IsGptData, OneGptData, gpt_bytes}
use Rattle.tcg_event.specs.Image.{Image, IsImage, image_bytes}
use Rattle.tcg_event.specs.Laws.{OneEncoded, OneValue}
use Rattle.tcg_event.specs.Reading.{Reads}
use Rattle.tcg_event.specs.Variable.{IsVariable, Variable, variable_bytes}
use Rattle.uefi_tcg.specs.v2.Header.{Header}
use Rattle.tcg_event.proofs.OneValue.{one_read}
use Rattle.uefi_tcg.proofs.v2.HeaderBytes.{one_prefix_header}
use Rattle.pcr_replay.specs.Start.{locality_in}
use Rattle.uefi_audits.specs.content.Content.{BlobContent, Content, ImageContent, NoActionContent, PostCodeContent, Says, VariableContent}
use Rattle.uefi_audits.specs.content.Content.{are_printed, blob, described_blob, gpt, header, image, or_unread, tagged, variable}
use Rattle.uefi_audits.specs.content.Header.{ReadsHeader}
use Rattle.uefi_audits.specs.content.Path.{ReadsNodes}
use Rattle.uefi_audits.specs.content.Form.{OfNoAction, OfSeparator, OfText, OfPostCode, OfBlob, OfDescribedBlob, OfCrtmVersion, OfTagged, OfGpt, OfVariable, OfAuthority, OfImage, Other}
use Rattle.uefi_audits.specs.content.Value.{SaysValue, ValueForm, authority_form, value_form}
use Rattle.uefi_audits.specs.Laws.{OneContent}
use Rattle.uefi_audits.proofs.content.OneValue.{OneOfEach, one_value}

-- The laws that this rests on.
pub record ReadersLaws : Type 0 where
  pub front : OneFront
  pub readers : OneValue
  pub gpt : OneGptData
  pub values : OneOfEach

-- What is found under a law.
one_found : {A : Type 0} (Is : A → Type 0) (encoding : A → List ℕ) (says : A → Content) → OneEncoded Is encoding
    → (bytes : List ℕ) (a b : Content) → ((found : Option A) × Reads Is encoding bytes found × (a ≡ or_unread says found))
    → ((found : Option A) × Reads Is encoding bytes found × (b ≡ or_unread says found)) → a ≡ b
one_found Is encoding says one bytes a b (found, read, is) (also, other, that) =
    is ∙ ap (or_unread says) (one_read Is encoding one bytes found also read other) ∙ sym that

-- At most one header.
same_header : (bytes : List ℕ) (found also : Option Header) → ReadsHeader bytes found → ReadsHeader bytes also → found ≡ also
unfolding ReadsHeader
same_header bytes (Some h) (Some k) read other =
    ap Some (one_prefix_header h k bytes read.is_header other.is_header read.begins other.begins)
same_header bytes (Some h) None read none = absurd (none h read)
same_header bytes None (Some k) none other = absurd (none k other)
same_header bytes None None none other = refl

no_action : (stated : Option ℕ) (bytes : List ℕ) (a b : Content) → NoActionContent stated bytes a → NoActionContent stated bytes b
    → a ≡ b
unfolding NoActionContent
no_action (Some number) bytes a b says other = says ∙ sym other
no_action None bytes a b (found, read, is) (also, other, that) =
    is ∙ ap (or_unread header) (same_header bytes found also read other) ∙ sym that

one_blob : OneValue → (bytes : List ℕ) (a b : Content) → BlobContent bytes a → BlobContent bytes b → a ≡ b
unfolding BlobContent
one_blob values bytes a b says other = one_found IsBlob blob_bytes blob values.blob bytes a b says other

post_code : OneValue → (printed : Bool) (bytes : List ℕ) (a b : Content) → PostCodeContent printed bytes a
    → PostCodeContent printed bytes b → a ≡ b
unfolding PostCodeContent
post_code values true bytes a b says other = says ∙ sym other
post_code values false bytes a b says other = one_blob values bytes a b says other

-- One variable with one value.
one_measured : OneOfEach → (form : List ℕ → List ℕ → ValueForm) (found also : Option Variable) (a b : Content)
    → found ≡ also → VariableContent form found a → VariableContent form also b → a ≡ b
one_measured laws form (Some v) (Some w) a b same (value, says, is) (also, other, that) =
    let read_same : v ≡ w = cc in
    let value_same : value ≡ also = one_value laws (form w.guid w.name) w.payload value also
    (subst (λ (x : Variable). SaysValue (form x.guid x.name) x.payload value) read_same says) other in
    is ∙ ap (λ x. variable x value) read_same ∙ ap (variable w) value_same ∙ sym that
one_measured laws form (Some v) None a b same says other = cc
one_measured laws form None (Some w) a b same says other = cc
one_measured laws form None None a b same says other = says ∙ sym other

-- At most one path has these bytes.
one_path : OneFront → OneEncoded IsPath joined
one_path law p q is also same = (law.no_proper_prefix p q [] [] is also (ap (λ bs. bs ++ []) same)).0

one_loaded : OneFront → (found other : Option Image) (a b : Content) → found ≡ other → ImageContent found a
    → ImageContent other b → a ≡ b
one_loaded law (Some v) (Some w) a b same (nodes, read, is) (also, other, that) =
    let image_same : v ≡ w = cc in
    let path_same : nodes ≡ also = one_read IsPath joined (one_path law) w.device_path nodes also (subst
    (λ x. ReadsNodes x.device_path nodes) image_same read) other in
    is ∙ ap (λ x. image x nodes) image_same ∙ ap (image w) path_same ∙ sym that
one_loaded law (Some v) None a b same says other = cc
one_loaded law None (Some w) a b same says other = cc
one_loaded law None None a b same says other = says ∙ sym other

-- All of this, as the law states it.
pub one_content : ReadersLaws → OneContent
unfolding Says
one_content laws size OfNoAction bytes a b says other = no_action (locality_in bytes) bytes a b says other
one_content laws size OfSeparator bytes a b says other = says ∙ sym other
one_content laws size OfText bytes a b says other = says ∙ sym other
one_content laws size OfPostCode bytes a b says other = post_code laws.readers (are_printed bytes) bytes a b says other
one_content laws size OfBlob bytes a b says other = one_blob laws.readers bytes a b says other
one_content laws size OfDescribedBlob bytes a b says other =
    one_found IsDescribedBlob described_bytes described_blob laws.readers.described_blob bytes a b says other
one_content laws size OfCrtmVersion bytes a b says other = says ∙ sym other
one_content laws size OfTagged bytes a b (events, rest, are, is) (others, left, also, that) =
    let both = laws.readers.tagged bytes events others rest left are also in
    is ∙ (λ i. tagged (both.0 i) (both.1 i)) ∙ sym that
one_content laws size OfGpt bytes a b says other = one_found (IsGptData size) (gpt_bytes size) gpt (laws.gpt size) bytes a b says other
one_content laws size OfVariable bytes a b (found, read, is) (also, other, that) =
    one_measured laws.values value_form found also a b
    (one_read IsVariable variable_bytes laws.readers.variable bytes found also read other) is that
one_content laws size OfAuthority bytes a b (found, read, is) (also, other, that) =
    one_measured laws.values authority_form found also a b
    (one_read IsVariable variable_bytes laws.readers.variable bytes found also read other) is that
one_content laws size OfImage bytes a b (found, read, is) (also, other, that) =
    one_loaded laws.front found also a b (one_read (IsImage size) (image_bytes size) (laws.readers.image size) bytes found also read other) is
    that
one_content laws size Other bytes a b says other = says ∙ sym other
