use Rattle.uefi_path_text.specs.private.FromText.{value_bytes}
use Rattle.uefi_path_text.proofs.reading.ArgumentLists.{padded_put}
use Rattle.uefi_path_text.proofs.parse.data.put_padded.Goals as goal

pub returns : goal.returns
returns c =
    padded_put c.args.offset c.len-size.result c.min.result (value_bytes c.args.value.now) c.args.buffer.now
    c.put_value.new.buffer c.put.new.buffer c.len-size.ensures c.min.ensures c.requires.room c.put_value.ensures c.put.ensures
