-- What contracts see of builders.
use Rattle.std.specs.Prelude.{◌≡◌, ℕ, List, Result, length}
use Rattle.std.specs.Borrow.{Fml, MutBor, RestsIfErr, Array, u8 as byte}
use Rattle.uefi_base.specs.Buffer.{EndsAs}
use Rattle.uefi_path.specs.Node.{Node, joined}
use Rattle.uefi_path.specs.declared.build.builder.DevicePathBuilder.{DevicePathBuilder}
use Rattle.uefi_path.specs.declared.build.error.BuildError.{BuildError}
use Rattle.uefi_path.specs.declared.build.vec_builder.DevicePathVecBuilder.{DevicePathVecBuilder}

-- The nodes that were pushed, in order.
abbrev pub built_nodes : DevicePathBuilder → List Node
built_nodes builder = builder.nodes.0

-- The length of their encodings.
abbrev pub built_length : DevicePathBuilder → ℕ
built_length builder = length (joined (built_nodes builder))

-- All bytes of the buffer.
abbrev pub builder_bytes : DevicePathBuilder → List ℕ
builder_bytes builder = builder.buffer.now

-- The builder writes to what the reference borrows.
abbrev pub WritesTo : MutBor (List ℕ) → DevicePathBuilder → Type 0
WritesTo buffer builder = builder.buffer.ghost_name ≡ buffer.ghost_name

-- What holds of the builder's buffer at the end of its loan, if a view has borrowed it until then.
abbrev pub BuiltEndsAs : DevicePathBuilder → (List ℕ → Type 0) → Fml
BuiltEndsAs builder Holds = EndsAs builder.buffer Holds

-- The builder's buffer ends as the returned builder leaves it, and as it was where there is none.
abbrev pub StaysIfRefused : DevicePathBuilder → Result DevicePathBuilder BuildError → Fml
StaysIfRefused builder result = RestsIfErr (Array byte 0) builder.buffer (λ other. other.buffer.ghost_name) result
    (λ last. last ≡ builder.buffer.now)

-- Both builders write to what one reference borrows.
abbrev pub WriteToTheSame : DevicePathBuilder → DevicePathBuilder → Type 0
WriteToTheSame one other = other.buffer.ghost_name ≡ one.buffer.ghost_name

-- The nodes that were pushed onto the builder over a vector, in order.
abbrev pub vec_built_nodes : {A : Type 0} → DevicePathVecBuilder A → List Node
vec_built_nodes builder = builder.nodes.0
