use Rattle.std.proofs.Common.{arith, refl}
use Rattle.std.specs.Prelude.{None, Some, codes}
use Rattle.std.proofs.lemmas.Bool.Decides.{Decides-eqb}
use Rattle.std.proofs.lemmas.Slice.Eq.{strip_prefix_is}
use Rattle.uefi_audits.proofs.Commands.{after_prompt, last_prompt}
use Rattle.uefi_audits.proofs.check.measured.command_in.Goals as goal

pub returns-in-Some : goal.returns-in-Some
returns-in-Some c =
    after_prompt c.args.bytes.now c.in_ok-text.text.now (codes "grub_cmd: ") c.in-Some.command.now
    (0, omega arith, refl) c.in_ok-text.ensures
    (strip_prefix_is Decides-eqb c.in_ok-text.text.now (codes "grub_cmd: ") (Some c.in-Some.command)
    c.in-Some.ensures.cases)

pub returns-in-Some-strip_prefix : goal.returns-in-Some-strip_prefix
returns-in-Some-strip_prefix c =
    after_prompt c.args.bytes.now c.in_ok-text.text.now (codes "kernel_cmdline: ") c.in-Some-strip_prefix.command.now
    (1, omega arith, refl) c.in_ok-text.ensures
    (strip_prefix_is Decides-eqb c.in_ok-text.text.now (codes "kernel_cmdline: ") (Some c.in-Some-strip_prefix.command)
    c.in-Some-strip_prefix.ensures.cases)

pub returns : goal.returns
returns c =
    let text = c.in_ok-text.text.now in
    last_prompt c.args.bytes.now text c.strip_prefix-3.result c.in_ok-text.ensures
    (strip_prefix_is Decides-eqb text (codes "grub_cmd: ") None c.in_default.ensures.cases)
    (strip_prefix_is Decides-eqb text (codes "kernel_cmdline: ") None c.in_default-strip_prefix.ensures.cases)
    (strip_prefix_is Decides-eqb text (codes "module_cmdline: ") c.strip_prefix-3.result c.strip_prefix-3.ensures.cases)
