use Rattle.std.proofs.Common.{◌≡◌, codes, rules}
use Rattle.std.specs.Prelude.{Some}
use Rattle.clap.specs.Words.{first_value, found_of}
use Rattle.uefi_audit.proofs.Requests.{no_quote}
use Rattle.uefi_audit.proofs.request.quote_of.Goals as goal

pub returns-in_err-hash : goal.returns-in_err-hash
returns-in_err-hash c =
    let found = found_of c.args.matches.now in
    let there : first_value found (codes "quote") ≡ Some c.in-Some.file.now = search rules in
    rw c.from_residual.ensures (no_quote found c.in-Some.file.now there c.in_err-hash.ensures)
