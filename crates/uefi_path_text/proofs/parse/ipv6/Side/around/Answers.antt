use Rattle.std.proofs.Common.{◌≡◌, ◌-◌, length, take, arith, ap, ◌∙◌, sym}
use Rattle.std.proofs.lemmas.List.{length-take-le}
use Rattle.uefi_base.specs.Buffer.{put_at}
use Rattle.uefi_path_text.proofs.arguments.Sides.{end_put}
use Rattle.uefi_path_text.proofs.parse.ipv6.Side.around.Goals as goal

pub returns : goal.returns
returns c =
    let front = c.requires.front in
    let back = c.requires.back in
    let long : length (take c.args.back.len c.args.back.bytes) ≡ c.args.back.len =
    length-take-le c.args.back.len c.args.back.bytes (omega (arith, back.few, back.long)) in
    end_put c.args.self.bytes (take c.args.back.len c.args.back.bytes) c.put.new.buffer c.args.self.len front.long
    (omega (arith, long, c.requires.room)) front.zeros
    (c.put.ensures ∙ ap (λ n. put_at (16 - n) (take c.args.back.len c.args.back.bytes) c.args.self.bytes) (sym long))
