-- Values that are written as nodes (UEFI 2.10, 10.3.1 "Generic Device Path Structures").
use Rattle.std.specs.Prelude.{◌≡◌, ℕ, ◌≤◌, ◌<◌, List, length, Result, IfOk, IfErr, OnOk, OnErr}
use Rattle.uefi_base.specs.Buffer.{put_prefix}
use Rattle.uefi_path.specs.Node.{Node, Fits, encoding}
use Rattle.uefi_path.specs.declared.build.error.BuildError.{BuildError}
use Rattle.uefi_path.specs.declared.build.error.BuildError.TheVariants.{Form, NodeTooBig, BufferTooSmall, EndEntire, Memory}

-- The greatest length of a node that its header can state.
abbrev pub greatest_length : ℕ
greatest_length = 0xffff

-- Why a value isn't written into a buffer: no node has it; or its node is too long for a header, or for the buffer.
abbrev pub HasWritingFault : Type 0 → Node → List ℕ → BuildError → Type 0
HasWritingFault IsValid node buffer Form = ¬ IsValid
HasWritingFault IsValid node buffer NodeTooBig = IsValid × (greatest_length < length (encoding node))
HasWritingFault IsValid node buffer (BufferTooSmall needed) = IsValid × (length (encoding node) ≤ greatest_length)
    × (length buffer < needed) × (needed ≡ length (encoding node))
HasWritingFault IsValid node buffer EndEntire = ⊥
HasWritingFault IsValid node buffer Memory = ⊥

-- At Ok, some node has the value, the buffer starts with it, and the bytes after it are what they were; at Err, the
-- buffer is what it was, and this is why.
pub record WritesNode (IsValid : Type 0) (node : Node) (old new : List ℕ) (result : Result ℕ BuildError) : Type 0 where
  pub valid : OnOk result (IsValid × Fits node)
  pub end : IfOk result (λ n. n ≡ length (encoding node))
  pub room : IfOk result (λ n. n ≤ length old)
  pub written : OnOk result (new ≡ put_prefix (encoding node) old)
  pub unchanged : OnErr result (new ≡ old)
  pub err : IfErr result (HasWritingFault IsValid node old)
