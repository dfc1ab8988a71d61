use Rattle.std.proofs.Common.{append_assoc, sym, append-nil}
use Rattle.uefi_listing.specs.Pci.{fault_line}
use Rattle.uefi_listing.proofs.pci.push_fault.Goals as goal

pub returns-in-NoEndTag : goal.returns-in-NoEndTag
unfolding fault_line
returns-in-NoEndTag g c = rw c.in-NoEndTag.is c.writeln.ensures.bytes

pub returns-in-CutRecord : goal.returns-in-CutRecord
unfolding fault_line
returns-in-CutRecord g c = rw c.in-CutRecord.is c.writeln-in-CutRecord.ensures.bytes

pub returns-in-UnknownTag : goal.returns-in-UnknownTag
unfolding fault_line
returns-in-UnknownTag g c = rw c.in-UnknownTag.is (simp append_assoc c.writeln-in-UnknownTag.ensures.bytes)

pub returns-in-Memory : goal.returns-in-Memory
unfolding fault_line
returns-in-Memory g c = rw c.in-Memory.is (sym (append-nil _))
