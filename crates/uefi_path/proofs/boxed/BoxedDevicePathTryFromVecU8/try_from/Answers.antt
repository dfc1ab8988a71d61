use Rattle.std.proofs.Common.{◌≡◌, ℕ, List, ◌++◌, length, take, refl, sym, ◌∙◌, ap}
use Rattle.std.proofs.lemmas.List.{take_at}
use Rattle.uefi_path.specs.Node.{Node, joined, IsEndEntire}
use Rattle.uefi_path.specs.private.Encoding.{IsEncodingOfNodes}
use Rattle.uefi_path.specs.private.OnePath.{one_path}
use Rattle.uefi_path.specs.Views.{boxed_nodes}
use Rattle.uefi_path.proofs.boxed.BoxedDevicePathTryFromVecU8.try_from.Goals as goal

-- The bytes begin with the encoding of the nodes that the kept ones encode.
begin_with : (bytes path rest kept : List ℕ) (nodes : List Node) → bytes ≡ path ++ rest
    → kept ≡ take (length path) bytes
    → IsEncodingOfNodes IsEndEntire kept nodes → bytes ≡ joined nodes ++ rest
begin_with bytes path rest kept nodes whole is encodes =
    let same = sym (take_at path rest (length path) refl) ∙ sym (is ∙ ap (take (length path)) whole)
    ∙ encodes.encoded in
    whole ∙ ap (λ front. front ++ rest) same

pub returns : goal.returns
returns g c =
    let nodes = boxed_nodes c.new_unchecked.result in
    let rest = c.in_ok-path.field-0-1.now in
    let whole =
    begin_with c.args.bytes.items c.in_ok-path.path.now rest c.truncate.new.self.items nodes
    (sym c.as_slice.ensures.value ∙ c.in_ok-path.ensures.split) c.truncate.ensures.items
    c.new_unchecked.ensures in
    record {
      ok = (c.new_unchecked.ensures.ended, (rest, whole));
      only = λ others is prefix. (one_path others nodes prefix.0 rest is c.new_unchecked.ensures.ended
          (sym prefix.1 ∙ whole)).0;
      err = tt;
    }
