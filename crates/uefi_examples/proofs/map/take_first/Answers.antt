use Rattle.std.proofs.Common.{rules, refl, sym, subst, ◌∙◌, ◌≡◌, zero, suc, ℕ, List, slice_get}
use Rattle.std.specs.Prelude.{Some, None, IfNone, if◌then◌else◌, nat_lt}
use Rattle.uefi_map.specs.memory.Descriptor.{descriptor}
use Rattle.uefi_map.specs.memory.Map.{count_of, descriptors_from, entries_of}
use Rattle.uefi_map.specs.memory.Views.{mut_bytes, mut_meta}
use Rattle.uefi_examples.proofs.map.take_first.Goals as goal

-- The first of some descriptors is descriptor 0, if there is one.
first_entry : (bytes : List ℕ) (stride count : ℕ) → slice_get (descriptors_from bytes stride 0 count) 0 ≡
    (if nat_lt 0 count then Some (descriptor bytes stride 0) else None)
first_entry bytes stride zero = refl
first_entry bytes stride (suc count) = search rules

pub returns-clause-unchanged : goal.returns-clause-unchanged
returns-clause-unchanged c =
    let bytes = mut_bytes c.args.map.now in
    let meta = mut_meta c.args.map.now in
    let first : c.next-first.result ≡ slice_get (entries_of bytes meta) 0 = search rules in
    let same = c.set-before.ensures.before ∙ sym (first ∙ first_entry bytes meta.desc_size (count_of meta)) in
    subst (λ entry. IfNone entry (mut_bytes c.set-before.new.self ≡ bytes)) same c.set-before.ensures.unchanged
