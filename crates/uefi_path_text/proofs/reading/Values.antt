-- The values that are found in bytes are bytes, and their texts are read as them.
use Rattle.std.proofs.Common.{take-append-drop, ◌≡◌, ◌==◌, ◌&&◌, ◌||◌, ℕ, zero, suc, ◌+◌, ◌<◌, List, [], ◌∷◌, ◌++◌, Bool, true, false, not, cond, length, take, drop, replicate, refl, arith, sym, ap, ◌∙◌, subst, Option, Some, None, ne_eqb, eqb-true, inl, inr}
use Rattle.std.specs.List.{list_all}
use Rattle.std.specs.Int.{bytes_low_first, byte_at}
use Rattle.std.proofs.lemmas.Bool.{cases_Bool, and_parts, and_left, and_from, cond-true, cond-false}
use Rattle.std.proofs.lemmas.Option.{none-some}
use Rattle.std.specs.Prelude.{is_some}
use Rattle.std.proofs.lemmas.Grind.{common_steps}
use Rattle.std.proofs.lemmas.List.{get_or-drop, nil_from_length}
use Rattle.uefi_base.specs.LittleEndian.{AreBytes}
use Rattle.uefi_path_text.specs.text.Arguments.{hex_bytes}
use Rattle.uefi_path_text.specs.parse.Values.{bytes_in, size_bytes}
use Rattle.uefi_path_text.specs.form.NodeForm.{Parameter, Part, bytes, argument, padded, sum}
use Rattle.uefi_path_text.specs.parse.Arguments.{onto, value_in, text_or, listed_values, repeated_values, joined_values, texts_of}
use Rattle.uefi_path_text.specs.write.Values.{value_text, can_show}
use Rattle.uefi_path_text.specs.write.Fields.{value_size, is_of, value_of_part, value_found, values_from, values_found, zero_value, argument_at, part_size}
use Rattle.uefi_path_text.specs.write.Forms.{are_values, texts_from, all_shown, shown_texts, is_left_out}
use Rattle.uefi_path_text.proofs.Table.{is_sound_parameter}
use Rattle.uefi_path_text.specs.declared.form.argument.Argument.{Argument}
use Rattle.uefi_path_text.specs.declared.form.argument.Argument.TheVariants.{Number, BigEndian, Word, Digits, Bytes, HardwareAddress, Ipv4, Ipv4Server, Ipv6, EisaId, PnpId, EisaLetters, DriveBay, Text, Name, Quoted}
use Rattle.uefi_path_text.proofs.reading.ByteLists.{no_bytes, more_bytes}
use Rattle.uefi_path_text.proofs.reading.CutTexts.{are_arguments, joined}
use Rattle.uefi_path_text.proofs.reading.Kinds.{kind_reads}
use Rattle.uefi_path_text.proofs.reading.Calls.{texts_again, joined_some, joined_two}

-- Bytes.
pub dropped : (n : ℕ) (d : List ℕ) → AreBytes d → AreBytes (drop n d)
dropped n d each k = rw get_or-drop (each (n + k))

pub taken : (n : ℕ) (d : List ℕ) → AreBytes d → AreBytes (take n d)
taken n d each k = grind (arith, common_steps, each)

byte_below : (k n : ℕ) → byte_at k n < 256
byte_below zero n = omega arith
byte_below (suc k) n = omega arith

low_bytes : (i k n : ℕ) → AreBytes (bytes_low_first i k n)
low_bytes i zero n = no_bytes
low_bytes i (suc k) n = more_bytes (byte_at i n) (bytes_low_first (suc i) k n) (byte_below i n) (low_bytes (suc i) k n)

zero_bytes : (k : ℕ) → AreBytes (replicate k 0)
zero_bytes zero = no_bytes
zero_bytes (suc k) = more_bytes 0 (replicate k 0) (omega arith) (zero_bytes k)

zeros : (kind : Option Argument) → AreBytes (zero_value kind)
zeros None = no_bytes
zeros (Some (Word vocabulary size)) = zero_bytes (size_bytes size)
zeros (Some (Number size base)) = no_bytes
zeros (Some BigEndian) = no_bytes
zeros (Some (Digits shape)) = no_bytes
zeros (Some (Bytes most)) = no_bytes
zeros (Some Ipv4) = no_bytes
zeros (Some Ipv4Server) = no_bytes
zeros (Some Ipv6) = no_bytes
zeros (Some EisaId) = no_bytes
zeros (Some EisaLetters) = no_bytes
zeros (Some DriveBay) = no_bytes
zeros (Some (Text most)) = no_bytes
zeros (Some HardwareAddress) = no_bytes
zeros (Some PnpId) = no_bytes
zeros (Some (Name most)) = no_bytes
zeros (Some Quoted) = no_bytes

part_value : (kind : Option Argument) (part : Part) (rest : List ℕ) → AreBytes rest → AreBytes (value_of_part kind part rest)
part_value kind (bytes b) rest each = no_bytes
part_value kind (argument i) rest each = taken _ rest each
part_value kind (padded i) rest each = taken _ (take 32 rest) (taken 32 rest each)
part_value kind (sum first count) rest each = low_bytes 0 2 _

either_bytes : (b : Bool) (x y : List ℕ) → AreBytes x → AreBytes y → AreBytes (cond b x y)
either_bytes true x y first second = first
either_bytes false x y first second = second

pub found_bytes : (ps : List Parameter) (parts : List Part) (index : ℕ) (rest : List ℕ) → AreBytes rest
    → AreBytes (value_found ps parts index rest)
found_bytes ps [] index rest each = zeros (argument_at ps index)
found_bytes ps (part ∷ parts) index rest each =
    either_bytes (is_of index part) _ _ (part_value (argument_at ps index) part rest each)
    (found_bytes ps parts index (drop (part_size ps part rest) rest) (dropped (part_size ps part rest) rest each))

-- The text of a value is read as it also where the empty text stands for another.
own_text : (text : List ℕ) → text_or [] text ≡ text
own_text [] = refl
own_text (c ∷ text) = cond-false _ _ _ (ne_eqb (length (c ∷ text)) 0 (λ none. omega (arith, none)))

pub some_text : (default text : List ℕ) → 0 < length text → text_or default text ≡ text
some_text default text some = cond-false _ _ _ (ne_eqb (length text) 0 (λ none. omega (arith, none, some)))

pub none_there : (o : Option (List ℕ)) (v : List ℕ) → not (is_some o) ≡ true → o ≡ Some v → ⊥
none_there None v none is = none-some v is
none_there (Some x) v none is = cc

read_text : (kind : Argument) (default text v : List ℕ) → (length default == 0 || not (is_some (bytes_in kind []))) ≡ true
    → bytes_in kind text ≡ Some v → text_or default text ≡ text
read_text kind [] text v sound read = own_text text
read_text kind (c ∷ default) (x ∷ text) v sound read = some_text (c ∷ default) (x ∷ text) (omega arith)
read_text kind (c ∷ default) [] v sound read =
    let some : (length (c ∷ default) == 0) ≡ false = ne_eqb (length (c ∷ default)) 0 (λ none. omega (arith, none)) in
    absurd (none_there (bytes_in kind []) v (sym (ap (λ b. b || not (is_some (bytes_in kind []))) some) ∙ sound) read)

pub parameter_reads : (parameter : Parameter) (v : List ℕ) → AreBytes v → is_sound_parameter parameter ≡ true
    → can_show parameter.argument v ≡ true → value_in parameter (value_text parameter.argument v) ≡ Some v
parameter_reads parameter v each sound shown =
    let read = (kind_reads parameter.argument v each shown).read in
    ap (bytes_in parameter.argument) (read_text parameter.argument parameter.default _ v sound read) ∙ read

-- A value that is left out is empty, and so is its text.
left_out_text : (kind : Argument) (v : List ℕ) → is_left_out kind v ≡ true → value_text kind v ≡ []
unfolding hex_bytes
left_out_text (Bytes most) [] is = refl
left_out_text (Bytes most) (b ∷ v) is = absurd (omega (arith, eqb-true (length (b ∷ v)) 0 is))
left_out_text (Number size base) v is = cc
left_out_text BigEndian v is = cc
left_out_text (Word vocabulary size) v is = cc
left_out_text (Digits shape) v is = cc
left_out_text Ipv4 v is = cc
left_out_text Ipv4Server v is = cc
left_out_text Ipv6 v is = cc
left_out_text EisaId v is = cc
left_out_text EisaLetters v is = cc
left_out_text DriveBay v is = cc
left_out_text (Text most) v is = cc
left_out_text HardwareAddress v is = cc
left_out_text PnpId v is = cc
left_out_text (Name most) v is = cc
left_out_text Quoted v is = cc

-- All values are read of their texts.
pub record ListReads (parameters : List Parameter) (texts values : List (List ℕ)) : Type 0 where
  pub arguments : are_arguments texts ≡ true
  pub read : listed_values parameters texts ≡ Some values

last_reads : (p : Parameter) (v : List ℕ) → AreBytes v → is_sound_parameter p ≡ true → can_show p.argument v ≡ true
    → ListReads (p ∷ []) (cond (is_left_out p.argument v) [] (value_text p.argument v ∷ [])) (v ∷ [])
last_reads p v each sound shown =
    let reads = parameter_reads p v each sound shown in
    elim (cases_Bool (is_left_out p.argument v)) [
      | inl left ↦ subst (λ texts. ListReads (p ∷ []) texts (v ∷ [])) (sym (cond-true (is_left_out p.argument v) _ _ left))
          (record {
            arguments = refl;
            read = ap (λ o. onto o (Some [])) (ap (value_in p) (sym (left_out_text p.argument v left)) ∙ reads);
          })
      | inr not_left ↦ subst (λ texts. ListReads (p ∷ []) texts (v ∷ [])) (sym (cond-false (is_left_out p.argument v) _ _ not_left))
          (record {
            arguments = and_from _ _ (kind_reads p.argument v each shown).argument refl;
            read = ap (λ o. onto o (Some [])) reads;
          })
    ]

pub not_last : (q : Parameter) (others : List Parameter) (left : Bool) → (length (q ∷ others) == 0 && left) ≡ false
not_last q others left = and_left _ _ (ne_eqb (length (q ∷ others)) 0 (λ none. omega (arith, none)))

pub list_reads : (ps : List Parameter) (parts : List Part) (d : List ℕ) → AreBytes d → (more : List Parameter) (k : ℕ)
    → list_all is_sound_parameter more ≡ true → all_shown more (values_from ps parts more k d) ≡ true
    → ListReads more (shown_texts more (values_from ps parts more k d)) (values_from ps parts more k d)
list_reads ps parts d each [] k sound shown = record { arguments = refl; read = refl }
list_reads ps parts d each (p ∷ []) k sound shown =
    last_reads p (value_found ps parts k d) (found_bytes ps parts k d each) (and_parts _ _ sound).0 (and_parts _ _ shown).0
list_reads ps parts d each (p ∷ q ∷ others) k sound shown =
    let v = value_found ps parts k d in
    let bytes = found_bytes ps parts k d each in
    let here = and_parts _ _ shown in
    let fits = and_parts _ _ sound in
    let rest = list_reads ps parts d each (q ∷ others) (suc k) fits.1 here.1 in
    subst (λ texts. ListReads (p ∷ q ∷ others) texts (values_from ps parts (p ∷ q ∷ others) k d))
    (sym (cond-false _ _ _ (not_last q others (is_left_out p.argument v))))
    (record {
      arguments = and_from _ _ (kind_reads p.argument v bytes here.0).argument rest.arguments;
      read = λ i. onto (parameter_reads p v bytes fits.0 here.0 i) (rest.read i);
    })

-- Texts with commas between them are read as they are, the empty text alone as none.
pub again_listed : (p : Parameter) (ps : List Parameter) (texts : List (List ℕ)) → are_arguments texts ≡ true
    → listed_values (p ∷ ps) (texts_of (joined texts)) ≡ listed_values (p ∷ ps) texts
again_listed p ps [] are = refl
again_listed p ps ([] ∷ []) are = refl
again_listed p ps ((c ∷ text) ∷ []) are =
    ap (listed_values (p ∷ ps)) (texts_again ((c ∷ text) ∷ []) (joined_some (c ∷ text) [] (omega arith)) are)
again_listed p ps (a ∷ b ∷ more) are = ap (listed_values (p ∷ ps)) (texts_again (a ∷ b ∷ more) (joined_two a b more) are)

pub again_found : (ps : List Parameter) (parts : List Part) (d : List ℕ) → AreBytes d
    → list_all is_sound_parameter ps ≡ true → all_shown ps (values_found ps parts d) ≡ true
    → listed_values ps (texts_of (joined (shown_texts ps (values_found ps parts d)))) ≡ Some (values_found ps parts d)
again_found [] parts d each sound shown = refl
again_found (p ∷ ps) parts d each sound shown =
    let reads = list_reads (p ∷ ps) parts d each (p ∷ ps) 0 sound shown in
    again_listed p ps _ reads.arguments ∙ reads.read

-- Values that are repeated.
abbrev pub cut_values : Argument → ℕ → List ℕ → List (List ℕ)
cut_values kind zero rest = []
cut_values kind (suc count) rest =
    take (value_size kind rest) rest ∷ cut_values kind count (drop (value_size kind rest) rest)

pub record AreRepeated (kind : Argument) (count : ℕ) (rest : List ℕ) : Type 0 where
  pub arguments : are_arguments (texts_from kind count rest) ≡ true
  pub read : repeated_values kind (texts_from kind count rest) ≡ Some (cut_values kind count rest)
  pub whole : joined_values (cut_values kind count rest) ≡ rest

pub repeated_reads : (kind : Argument) (count : ℕ) (rest : List ℕ) → AreBytes rest → are_values kind count rest ≡ true
    → AreRepeated kind count rest
repeated_reads kind zero rest each are =
    record { arguments = refl; read = refl; whole = sym (nil_from_length rest (eqb-true _ 0 are)) }
repeated_reads kind (suc count) rest each are =
    let size = value_size kind rest in
    let parts = and_parts _ _ are in
    let first = kind_reads kind (take size rest) (taken size rest each) parts.0 in
    let others = repeated_reads kind count (drop size rest) (dropped size rest each) parts.1 in
    record {
      arguments = and_from _ _ first.argument others.arguments;
      read = λ i. onto (first.read i) (others.read i);
      whole = ap (λ l. take size rest ++ l) others.whole ∙ take-append-drop size rest;
    }

-- The first isn't empty, if the empty text is none of the kind.
text_some : (kind : Argument) (text v : List ℕ) → not (is_some (bytes_in kind [])) ≡ true → bytes_in kind text ≡ Some v
    → 0 < length text
text_some kind [] v sound read = absurd (none_there (bytes_in kind []) v sound read)
text_some kind (c ∷ text) v sound read = omega arith

pub again_repeated : (kind : Argument) (count : ℕ) (rest : List ℕ) → AreBytes rest
    → not (is_some (bytes_in kind [])) ≡ true → not (count == 0) ≡ true → are_values kind count rest ≡ true
    → texts_of (joined (texts_from kind count rest)) ≡ texts_from kind count rest
again_repeated kind zero rest each sound some are = cc
again_repeated kind (suc count) rest each sound some are =
    let size = value_size kind rest in
    let first = kind_reads kind (take size rest) (taken size rest each) (and_parts _ _ are).0 in
    texts_again _ (joined_some _ (texts_from kind count (drop size rest)) (text_some kind _ _ sound first.read))
    (repeated_reads kind (suc count) rest each are).arguments
