-- A node that was pushed into its builder's buffer, or refused.
use Rattle.std.proofs.Common.{◌≡◌, ℕ, ◌+◌, ◌≤◌, List, [], ◌∷◌, ◌++◌, Bool, true, false, length}
use Rattle.std.proofs.Common.{take, refl, sym, ◌∙◌, ap, subst}
use Rattle.std.specs.Prelude.{⊤, Result, Ok, Err, IsOk, IsErr, IsTrue, IfOk, IfErr, OnOk, OnErr, MatchResult, ◌↔◌}
use mathlib.Core.Bool.{not}
use lib.Dec.{T}
use Rattle.uefi_base.specs.Buffer.{put_at}
use Rattle.uefi_path.specs.Node.{Node, Fits, encoding, IsEndEntire}
use Rattle.uefi_path.specs.build.Pushing.{HasBufferFault}
use Rattle.uefi_path.specs.build.Views.{built_nodes, builder_bytes, built_length, WriteToTheSame}
use Rattle.uefi_path.specs.private.Encoding.{EncodesBefore, IsEncodingBefore}
use Rattle.uefi_path.specs.declared.build.builder.DevicePathBuilder.{DevicePathBuilder}
use Rattle.uefi_path.specs.declared.build.error.BuildError.{BuildError}
use Rattle.uefi_path.proofs.Building.{pushed, these_nodes, encoded_length, end_is, length-put_at}

-- A test that holds is true, and one that doesn't isn't.
pub is_true : (test : Bool) → T test → test ≡ true
is_true true so = refl
is_true false so = absurd so

not_true : (test : Bool) → T (not test) → test ≡ true → ⊥
not_true true no_test so = no_test
not_true false no_test so = let h : false ≡ true = so in cc

pub is_err : {V E : Type 0} (written : Result V E) (test : Bool) → IsTrue test ↔ IsOk written → T (not test)
    → IsErr written
is_err (Ok v) test judged no_test = absurd (not_true test no_test (judged.1 refl))
is_err (Err e) test judged no_test = refl

-- Where there is an error, the same error is returned.
pub is_none : {V T E : Type 0} (written : Result V E) (made : Result T E) → IsErr written
    → MatchResult written (λ _. ⊤) (λ error. made ≡ Err error) → IsOk made → ⊥
is_none (Ok v) made is same ok = let h : false ≡ true = is in cc
is_none (Err e) (Ok x) is same ok = let h : Ok x ≡ Err e = same in cc
is_none (Err e) (Err f) is same ok = let h : false ≡ true = ok in cc

module _ (builder : DevicePathBuilder) (node : Node) (Valid : Type 0) where
  -- What the plain clauses of `push` say.
  pub record Pushed (made : Result DevicePathBuilder BuildError) : Type 0 where
    pub valid : OnOk made (Valid × Fits node)
    pub accepted : OnOk made (¬ IsEndEntire node)
    pub nodes : IfOk made (λ other. built_nodes other ≡ built_nodes builder ++ node ∷ [])
    pub bytes : IfOk made (λ other. builder_bytes other
        ≡ put_at (built_length builder) (encoding node) (builder_bytes builder))
    pub room : IfOk made (λ other. built_length other ≤ length (builder_bytes builder))
    pub same_buffer : IfOk made (WriteToTheSame builder)
    pub refused : IfErr made (HasBufferFault Valid node (built_length builder) (length (builder_bytes builder)))

module _ (builder : DevicePathBuilder) (node : Node) (Valid : Type 0) (new : List ℕ) where
  -- What `push_at` ensures.
  pub record WroteNode (written : Result ℕ BuildError) : Type 0 where
    pub valid : OnOk written (Valid × Fits node)
    pub accepted : OnOk written (¬ IsEndEntire node)
    pub end : IfOk written (λ end. end ≡ builder.end + length (encoding node))
    pub room : IfOk written (λ end. end ≤ length (builder_bytes builder))
    pub put : OnOk written (new ≡ put_at builder.end (encoding node) (builder_bytes builder))
    pub refused : IfErr written (HasBufferFault Valid node builder.end (length (builder_bytes builder)))
    pub unchanged : OnErr written (new ≡ builder_bytes builder)

  pub wrote_node : {written : Result ℕ BuildError} → OnOk written (Valid × Fits node)
      → OnOk written (¬ IsEndEntire node)
      → IfOk written (λ end. end ≡ builder.end + length (encoding node))
      → IfOk written (λ end. end ≤ length (builder_bytes builder))
      → OnOk written (new ≡ put_at builder.end (encoding node) (builder_bytes builder))
      → IfErr written (HasBufferFault Valid node builder.end (length (builder_bytes builder)))
      → OnErr written (new ≡ builder_bytes builder)
      → WroteNode written
  wrote_node valid accepted end room put refused unchanged = record {
    valid = valid;
    accepted = accepted;
    end = end;
    room = room;
    put = put;
    refused = refused;
    unchanged = unchanged;
  }

  encodes_nodes : (end : ℕ) → WroteNode (Ok end) → IsEncodingBefore (take end new) (built_nodes builder ++ node ∷ [])
  encodes_nodes end wrote = pushed (builder_bytes builder) new builder.end end (built_nodes builder) node
      builder.nodes.1 builder.within wrote.valid.1 wrote.accepted wrote.end wrote.put

  -- The nodes are in the buffer up to where `push_at` says that they end.
  pub nodes_seen : (written : Result ℕ BuildError) → WroteNode written
      → IfOk written (λ end. (end ≤ length new) × EncodesBefore (take end new))
  nodes_seen (Ok end) wrote = (
    subst (λ bytes. end ≤ length bytes) (sym wrote.put)
        (length-put_at builder.end end (encoding node) (builder_bytes builder) builder.within wrote.end),
    (built_nodes builder ++ node ∷ [], encodes_nodes end wrote),
  )
  nodes_seen (Err error) wrote = tt

  built : (end : ℕ) (other : DevicePathBuilder) → WroteNode (Ok end)
      → IsEncodingBefore (take end new) (built_nodes other) → built_nodes other ≡ built_nodes builder ++ node ∷ []
  built end other wrote encodes = these_nodes (take end new) (built_nodes other) (built_nodes builder ++ node ∷ [])
      (encodes_nodes end wrote) encodes

  pub accepts : (written : Result ℕ BuildError) (made : Result DevicePathBuilder BuildError) → WroteNode written
      → IsOk written → IsOk made
      → MatchResult written (λ end. IfOk made (λ other. IsEncodingBefore (take end new) (built_nodes other))) (λ _. ⊤)
      → IfOk made (λ other. builder_bytes other ≡ new) → IfOk made (WriteToTheSame builder)
      → Pushed builder node Valid made
  accepts (Ok end) (Ok other) wrote is ok encodes bytes same =
      let nodes = built end other wrote encodes in record {
        valid = wrote.valid;
        accepted = wrote.accepted;
        nodes = nodes;
        bytes = bytes ∙ wrote.put ∙ ap (λ n. put_at n (encoding node) (builder_bytes builder)) (end_is builder);
        room = subst (λ n. n ≤ length (builder_bytes builder))
            (encoded_length new end (built_nodes other) (nodes_seen (Ok end) wrote).0 encodes) wrote.room;
        same_buffer = same;
        refused = tt;
      }
  accepts (Ok end) (Err error) wrote is ok encodes bytes same = let h : false ≡ true = ok in cc
  accepts (Err error) made wrote is ok encodes bytes same = let h : false ≡ true = is in cc

  pub refuses : (written : Result ℕ BuildError) (made : Result DevicePathBuilder BuildError) → WroteNode written
      → IsErr written → MatchResult written (λ _. ⊤) (λ error. made ≡ Err error)
      → Pushed builder node Valid made × OnErr made (new ≡ builder_bytes builder)
  refuses (Ok end) made wrote is same = let h : false ≡ true = is in cc
  refuses (Err error) (Ok other) wrote is same = let h : Ok other ≡ Err error = same in cc
  refuses (Err error) (Err found) wrote is same =
      let h : found ≡ error = cc in (
        record {
          valid = tt;
          accepted = tt;
          nodes = tt;
          bytes = tt;
          room = tt;
          same_buffer = tt;
          refused = subst (λ n. HasBufferFault Valid node n (length (builder_bytes builder)) found) (end_is builder)
              (subst (HasBufferFault Valid node builder.end (length (builder_bytes builder))) (sym h) wrote.refused);
        },
        wrote.unchanged,
      )
