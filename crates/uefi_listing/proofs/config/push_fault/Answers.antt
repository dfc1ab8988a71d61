use Rattle.std.proofs.Common.{◌≡◌, ◌∙◌, ℕ, List, ◌++◌, ap, sym}
use Rattle.std.specs.Prelude.{Result, Ok, Err, OnOk, if◌then◌else◌}
use Rattle.std.specs.Result.{is_ok}
use Rattle.uefi_listing.specs.Config.{fault_line}
use Rattle.uefi_listing.proofs.config.push_fault.Goals as goal
use Rattle.uefi_listing.proofs.config.push_fault.Goals.{in-BlockConfig, in-BlockName, in-Memory}

pub returns-in-ConfigHdr : goal.returns-in-ConfigHdr
unfolding fault_line
returns-in-ConfigHdr g c = rw c.in-ConfigHdr.is (simp c.section_name-name.ensures at c.writeln.ensures.bytes)

-- A push that didn't fail added the line.
line_pushed : {T E : Type 0} (r : Result T E) (old new line wanted : List ℕ)
    → new ≡ (if is_ok r then old ++ line else old) → line ≡ wanted → OnOk r (new ≡ old ++ wanted)
line_pushed (Ok x) old new line wanted is same = is ∙ ap (λ l. old ++ l) same
line_pushed (Err e) old new line wanted is same = tt

pub returns : goal.returns
unfolding fault_line
returns g c =
    line_pushed c.push_str.result _ _ c.match-fault.line.now (fault_line c.args.fault) c.push_str.ensures.bytes
    (elim c.match-fault.branch [
      | in-BlockName w ↦ ap (λ line. line.now) w.line-is ∙ sym (ap fault_line w.in-BlockName.is)
      | in-BlockConfig w ↦ ap (λ line. line.now) w.line-is ∙ sym (ap fault_line w.in-BlockConfig.is)
      | in-Memory w ↦ ap (λ line. line.now) w.line-is ∙ sym (ap fault_line w.in-Memory.is)
    ])
