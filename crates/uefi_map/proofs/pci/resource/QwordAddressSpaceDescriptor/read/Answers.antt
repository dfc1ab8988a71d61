use Rattle.std.proofs.Common.{◌≡◌, ℕ, List, [], ◌∷◌, Option, Some, None, refl}
use Rattle.std.specs.List.{slice_get}
use Rattle.uefi_map.specs.pci.Resource.{record_tag}
use Rattle.uefi_map.specs.pci.ResourceList.{BeginWith, end_tag}
use Rattle.uefi_map.proofs.pci.Records.{first_record}
use Rattle.uefi_map.proofs.pci.resource.QwordAddressSpaceDescriptor.read.Goals as goal

abbrev none : Option ℕ
none = None

abbrev some : ℕ → Option ℕ
some tag = Some tag

-- Either there is no first byte, or the bytes begin with it.
are_none : (bytes : List ℕ) → none ≡ slice_get bytes 0 → bytes ≡ []
are_none [] is = refl
are_none (b ∷ bytes) is = absurd cc

begin_with : (bytes : List ℕ) (first tag : ℕ) → some first ≡ slice_get bytes 0 → first ≡ tag → BeginWith bytes tag
begin_with [] first tag is same = absurd cc
begin_with (b ∷ bytes) first tag is same = (bytes, cc)

pub returns-in-None-clause-fault : goal.returns-in-None-clause-fault
returns-in-None-clause-fault c = are_none c.args.bytes.now c.in-None.ensures.value

pub returns-in-Some-eq121-clause-end : goal.returns-in-Some-eq121-clause-end
returns-in-Some-eq121-clause-end c =
    λ is. begin_with c.args.bytes.now _ end_tag c.in-Some-eq121.ensures.value c.in-Some-eq121.field-0-test

pub returns-in-Some-eq138-clause-fault : goal.returns-in-Some-eq138-clause-fault
returns-in-Some-eq138-clause-fault c = (
  begin_with c.args.bytes.now _ record_tag c.in-Some-eq138.ensures.value c.in-Some-eq138.field-0-test,
  c.if-bytes-lt-RECORD_LENGTH.true,
)

pub returns-in-Some-eq138-2-clause-record : goal.returns-in-Some-eq138-2-clause-record
returns-in-Some-eq138-2-clause-record c =
    let begin = begin_with c.args.bytes.now _ record_tag c.in-Some-eq138.ensures.value c.in-Some-eq138.field-0-test in
    rw (c.split_at.ensures.back, c.in_record.ensures, c.split_at.ensures.front)
    (first_record c.args.bytes.now begin c.if-bytes-lt-RECORD_LENGTH.false)

pub returns-in-Some-clause-fault : goal.returns-in-Some-clause-fault
returns-in-Some-clause-fault c = (
  begin_with c.args.bytes.now _ c.in-Some.tag.now c.in-Some.ensures.value refl,
  c.in-Some.tag-test.1,
  c.in-Some.tag-test.0.1,
)
