use Rattle.uefi_path.specs.Views.{path_nodes}
use Rattle.uefi_path.proofs.Cuts.{instances_of}
use Rattle.uefi_path.proofs.path.DevicePath.instance_iter.Goals as goal

pub new-requires : goal.new-requires
new-requires c = instances_of c.args.self.now.bytes.now (path_nodes c.args.self.now) c.args.self.now.nodes.1
