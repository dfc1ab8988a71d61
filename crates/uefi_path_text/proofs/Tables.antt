-- The texts by the sections.
use Rattle.std.proofs.Common.{◌≡◌, List, true, false, sym, ap, ◌∙◌, None}
use Rattle.std.proofs.lemmas.Bool.{cond-true, cond-false}
use Rattle.uefi_path.specs.Node.{Node}
use Rattle.uefi_path_text.specs.form.NodeForm.{NodeForm}
use Rattle.uefi_path_text.specs.AllForms.{forms_in, sections}
use Rattle.uefi_path_text.specs.write.Forms.{or_text, text_in_forms, text_in_sections, displayed_text, read_form_text}
use Rattle.uefi_path_text.specs.write.Partial.{partial_in_sections, partial_form, partial_name, partial_text}
use Rattle.uefi_path_text.specs.declared.forms.Section.{Section}
use Rattle.uefi_path_text.specs.declared.forms.Section.TheVariants.{Display}
use Rattle.uefi_path_text.specs.declared.text.style.Style.{Style}

pub reads_sections : (ts : List Section) (s : Style) (node : Node) → ts ≡ sections
    → text_in_sections ts s node ≡ read_form_text s node
unfolding read_form_text
reads_sections ts s node is = ap (λ t. text_in_sections t s node) is

pub shows_forms : (forms : List NodeForm) (s : Style) (node : Node) → forms ≡ forms_in Display → s.display_only ≡ true
    → text_in_forms forms s node ≡ displayed_text s node
unfolding displayed_text
shows_forms forms s node is display =
    ap (λ r. text_in_forms r s node) is ∙ sym (cond-true s.display_only _ _ display)

pub shows_none : (s : Style) (node : Node) → s.display_only ≡ false → None ≡ displayed_text s node
unfolding displayed_text
shows_none s node display = sym (cond-false s.display_only _ _ display)

pub partial_sections : (ts : List Section) (s : Style) (node : Node) → ts ≡ sections
    → partial_in_sections ts s node ≡ partial_form s node
unfolding partial_form
partial_sections ts s node is = ap (λ t. partial_in_sections t s node) is

pub shows_part : (s : Style) (node : Node) → s.display_only ≡ true
    → or_text (partial_form s node) (partial_name node) ≡ partial_text s node
unfolding partial_text
shows_part s node display = sym (cond-true s.display_only _ _ display)

pub shows_no_part : (s : Style) (node : Node) → s.display_only ≡ false → None ≡ partial_text s node
unfolding partial_text
shows_no_part s node display = sym (cond-false s.display_only _ _ display)
