-- A path that was ended in its builder's buffer, and the view of it.
use Rattle.std.proofs.Common.{◌≡◌, ℕ, ◌+◌, ◌≤◌, List, [], ◌∷◌, ◌++◌, length, take, refl, sym, ◌∙◌, ap, subst}
use Rattle.std.specs.Prelude.{Result, Ok, Err, IsOk, IfOk, IfErr, OnOk, OnErr, MatchResult, ◌↔◌}
use Rattle.uefi_base.specs.Buffer.{put_at}
use Rattle.uefi_path.specs.Header.{header_length}
use Rattle.uefi_path.specs.Node.{encoding, IsEndEntire, end_entire}
use Rattle.uefi_path.specs.Views.{path_nodes}
use Rattle.uefi_path.specs.build.Pushing.{IsTooShortFor}
use Rattle.uefi_path.specs.build.Views.{built_nodes, builder_bytes, built_length}
use Rattle.uefi_path.specs.private.Encoding.{EncodesPath, IsEncodingOfNodes}
use Rattle.uefi_path.specs.private.OnePath.{nodes_encoded_once}
use Rattle.uefi_path.specs.declared.build.builder.DevicePathBuilder.{DevicePathBuilder}
use Rattle.uefi_path.specs.declared.build.error.BuildError.{BuildError}
use Rattle.uefi_path.specs.declared.path.DevicePath.{DevicePath}
use Rattle.uefi_path.proofs.Building.{finished, end_is, length-put_at}

module _ (builder : DevicePathBuilder) (new : List ℕ) where
  -- What `push_end_at` ensures.
  pub record WroteEnd (written : Result ℕ BuildError) : Type 0 where
    pub end : IfOk written (λ end. end ≡ builder.end + header_length)
    pub room : IfOk written (λ end. end ≤ length (builder_bytes builder))
    pub put : OnOk written (new ≡ put_at builder.end (encoding end_entire) (builder_bytes builder))
    pub unchanged : OnErr written (new ≡ builder_bytes builder)
    pub refused : IfErr written (IsTooShortFor (builder.end + header_length) (length (builder_bytes builder)))

  pub wrote_end : {written : Result ℕ BuildError} → IfOk written (λ end. end ≡ builder.end + header_length)
      → IfOk written (λ end. end ≤ length (builder_bytes builder))
      → OnOk written (new ≡ put_at builder.end (encoding end_entire) (builder_bytes builder))
      → OnErr written (new ≡ builder_bytes builder)
      → IfErr written (IsTooShortFor (builder.end + header_length) (length (builder_bytes builder)))
      → WroteEnd written
  wrote_end end room put unchanged refused = assumption

  -- The path is in the buffer up to where `push_end_at` says that it ends.
  pub encodes_path : (end : ℕ) → WroteEnd (Ok end)
      → IsEncodingOfNodes IsEndEntire (take end new) (built_nodes builder ++ end_entire ∷ [])
  encodes_path end wrote = finished (builder_bytes builder) new (take end new) builder.end end (built_nodes builder)
      builder.nodes.1 builder.within wrote.end wrote.put refl

  pub path_seen : (written : Result ℕ BuildError) → WroteEnd written
      → IfOk written (λ end. (end ≤ length new) × EncodesPath (take end new))
  path_seen (Ok end) wrote = (
    subst (λ bytes. end ≤ length bytes) (sym wrote.put)
        (length-put_at builder.end end (encoding end_entire) (builder_bytes builder) builder.within wrote.end),
    (built_nodes builder ++ end_entire ∷ [], encodes_path end wrote),
  )
  path_seen (Err error) wrote = tt

  -- What `finalize` ensures.
  pub record Finalized (made : Result DevicePath BuildError) : Type 0 where
    pub after : MatchResult made
        (λ _. new ≡ put_at (built_length builder) (encoding end_entire) (builder_bytes builder))
        (λ _. new ≡ builder_bytes builder)
    pub nodes : IfOk made (λ path. path_nodes path ≡ built_nodes builder ++ end_entire ∷ [])
    pub room : OnOk made (built_length builder + header_length ≤ length (builder_bytes builder))
    pub refused : IfErr made (IsTooShortFor (built_length builder + header_length)
        (length (builder_bytes builder)))

  pub finalized : (written : Result ℕ BuildError) (made : Result DevicePath BuildError) → WroteEnd written
      → MatchResult written
      (λ end. IfOk made (λ path. IsEncodingOfNodes IsEndEntire (take end new) (path_nodes path)))
      (λ error. made ≡ Err error)
      → IsOk made ↔ IsOk written → Finalized made
  finalized (Ok end) (Ok path) wrote seen ok = record {
    after = wrote.put ∙ ap (λ n. put_at n (encoding end_entire) (builder_bytes builder)) (end_is builder);
    nodes = nodes_encoded_once IsEndEntire (take end new) (path_nodes path) (built_nodes builder ++ end_entire ∷ [])
        seen (encodes_path end wrote);
    room = subst (λ n. n ≤ length (builder_bytes builder))
        (wrote.end ∙ ap (λ n. n + header_length) (end_is builder)) wrote.room;
    refused = tt;
  }
  finalized (Ok end) (Err error) wrote seen ok = let none = ok.1 refl in cc
  finalized (Err error) (Ok path) wrote seen ok = let none = ok.0 refl in cc
  finalized (Err error) (Err other) wrote seen ok =
      let same : other ≡ error = cc in record {
        after = wrote.unchanged;
        nodes = tt;
        room = tt;
        refused = subst (λ n. IsTooShortFor (n + header_length) (length (builder_bytes builder)) other)
            (end_is builder) (subst (IsTooShortFor (builder.end + header_length) (length (builder_bytes builder))) (sym same)
            wrote.refused);
      }
