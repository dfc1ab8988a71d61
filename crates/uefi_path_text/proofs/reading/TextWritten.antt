-- A path that was written from its text, and the view of it.
use Rattle.std.proofs.Common.{◌≡◌, ℕ, ◌≤◌, List, length, take, refl, sym, ap, ◌∙◌, subst, arith}
use Rattle.std.specs.Prelude.{Result, Ok, Err, IfOk, IfErr, OnErr, MatchResult}
use Rattle.std.proofs.lemmas.Grind.{common_steps}
use Rattle.uefi_base.specs.Buffer.{put_prefix}
use Rattle.uefi_path.specs.Node.{joined}
use Rattle.uefi_path.specs.Path.{HasPath}
use Rattle.uefi_path.specs.Reading.{ReadsPath}
use Rattle.uefi_path.specs.Views.{path_nodes}
use Rattle.uefi_path.specs.declared.path.DevicePath.{DevicePath}
use Rattle.uefi_path_text.specs.parse.Errors.{HasBufferFault, WritesText}
use Rattle.uefi_path_text.specs.parse.Paths.{IsTextOf}
use Rattle.uefi_path_text.specs.declared.parse.error.FromTextError.{FromTextError}
use Rattle.uefi_path_text.proofs.reading.TextPaths.{path_bytes}

module _ (text old new : List ℕ) where
  -- What the writer ensures.
  pub record WrotePath (written : Result ℕ FromTextError) : Type 0 where
    pub ok : IfOk written (WritesText text old new)
    pub unchanged : OnErr written (new ≡ old)
    pub refused : IfErr written (HasBufferFault text (length old))

  -- What holds of the view, and of the buffer in the end.
  pub record MadePath (made : Result DevicePath FromTextError) : Type 0 where
    pub after : MatchResult made (λ path. new ≡ put_prefix (joined (path_nodes path)) old) (λ _. new ≡ old)
    pub path : IfOk made (λ path. IsTextOf (path_nodes path) text)
    pub refused : IfErr made (HasBufferFault text (length old))

  -- The path is in the buffer up to where the writer says that it ends.
  pub path_seen : (written : Result ℕ FromTextError) → WrotePath written
      → IfOk written (λ n. (n ≤ length new) × HasPath (take n new))
  path_seen (Ok n) wrote =
      let (nodes, is, sized, room, put) = wrote.ok in (
        grind (arith, common_steps, sized, ap length put),
        (nodes, is.is_path, path_bytes nodes n old new (take n new) sized put refl),
      )
  path_seen (Err error) wrote = tt

  -- The view is of the path that was written.
  pub path_made : (written : Result ℕ FromTextError) (made : Result DevicePath FromTextError) → WrotePath written
      → IfOk written (λ n. ReadsPath path_nodes (take n new) made) → IfErr written (λ error. made ≡ Err error)
      → MadePath made
  path_made (Ok n) (Ok path) wrote reads same =
      let (nodes, is, sized, room, put) = wrote.ok in
      let one = reads.only nodes is.is_path (path_bytes nodes n old new (take n new) sized put refl) in
      record {
        after = put ∙ ap (λ l. put_prefix (joined l) old) one;
        path = subst (λ l. IsTextOf l text) one is;
        refused = tt;
      }
  path_made (Ok n) (Err error) wrote reads same =
      absurd (reads.err (path_seen (Ok n) wrote).1)
  path_made (Err error) (Ok path) wrote reads same = cc
  path_made (Err error) (Err other) wrote reads same =
      let one : other ≡ error = cc in
      record { after = wrote.unchanged; path = tt; refused = subst (HasBufferFault text (length old)) (sym one) wrote.refused }
