use Rattle.std.proofs.Common.{◌≡◌, ◌∙◌, ◌∷◌, [], ap, map, subst}
use Rattle.std.specs.Prelude.{IfOk, codes}
use Rattle.tcg_event.specs.Views.{variable_of}
use Rattle.audit_text.specs.parts.Contents.{content_parts, line, only, variable_parts}
use Rattle.audit_text.specs.parts.Part.{both}
use Rattle.audit_text.specs.private.PartViews.{part_of}
use Rattle.audit_text.proofs.parts.content.content_parts.Goals as goal

pub returns-in_ok-value-in-BootOrder : goal.returns-in_ok-value-in-BootOrder
unfolding content_parts
returns-in_ok-value-in-BootOrder c =
    let value = c.in_ok-value-in-BootOrder.ensures
    ∙ ap (line (codes "boot_order") (codes "  boot order")) c.in_ok-order-in-BootOrder.ensures in
    rw c.in-BootOrder.is (subst (λ it. IfOk c.read_variable-in-BootOrder.result (λ parts. map part_of parts.items
    ≡ only (codes "variable") (variable_parts (variable_of c.in-BootOrder.variable) (only (codes "value") it)))) value
    c.read_variable-in-BootOrder.ensures)

pub returns-in_ok-value-in-SignatureLists : goal.returns-in_ok-value-in-SignatureLists
unfolding content_parts
returns-in_ok-value-in-SignatureLists c =
    let value = ap (map part_of) c.in_ok-value-in-SignatureLists.ensures.items
    ∙ ap (λ it. it ∷ []) (c.new-in-SignatureLists.ensures ∙ ap (both (codes "signature_lists") []) c.in_ok-lists-in-SignatureLists.ensures) in
    rw c.in-SignatureLists.is (subst (λ it. IfOk c.read_variable-in-SignatureLists.result (λ parts. map part_of parts.items
    ≡ only (codes "variable") (variable_parts (variable_of c.in-SignatureLists.variable) (only (codes "value") it)))) value
    c.read_variable-in-SignatureLists.ensures)

pub returns-in_ok-value-in-Signature : goal.returns-in_ok-value-in-Signature
unfolding content_parts
returns-in_ok-value-in-Signature c =
    let value = c.in_ok-value-in-Signature.ensures ∙ ap (only (codes "signature")) c.in_ok-signature_parts-in-Signature.ensures in
    rw c.in-Signature.is (subst (λ it. IfOk c.read_variable-in-Signature.result (λ parts. map part_of parts.items
    ≡ only (codes "variable") (variable_parts (variable_of c.in-Signature.variable) (only (codes "value") it)))) value
    c.read_variable-in-Signature.ensures)
