use Rattle.std.proofs.Common.{◌≡◌, Err, sym, ◌∙◌, arith, take}
use Rattle.std.proofs.lemmas.Result.{err_from_is_err_and}
use Rattle.uefi_base.specs.LittleEndian.{u16_at}
use Rattle.uefi_base.specs.Views.{slice_units}
use Rattle.uefi_path.specs.LoadOption.{HasRest, ReadsLoadOption}
use Rattle.uefi_path.specs.LoadOptionFlags.{attribute_bits}
use Rattle.uefi_path.specs.LoadOptionViews.{load_option_of}
use Rattle.uefi_path.specs.Path.{HasPath}
use Rattle.uefi_path.specs.Views.{path_nodes}
use Rattle.uefi_path.specs.declared.load_option_error.LoadOptionError.TheVariants.{TooShort, NotNulTerminated, FilePathListTooLong, FilePath}
use Rattle.uefi_path.proofs.LoadOptions.{refused, rest_after, whole_load_option}
use Rattle.uefi_path.proofs.load_option.LoadOptionTryFromRefSliceU8.try_from.Goals as goal
use Rattle.uefi_path.proofs.load_option.LoadOptionTryFromRefSliceU8.try_from.Goals.{In-Some}

pub returns-then-bytes-lt-DESCRIPTION_OFFSET : goal.returns-then-bytes-lt-DESCRIPTION_OFFSET
returns-then-bytes-lt-DESCRIPTION_OFFSET c =
    refused load_option_of c.args.bytes.now TooShort c.if-bytes-lt-DESCRIPTION_OFFSET.true

pub returns-in_default : goal.returns-in_default
returns-in_default c =
    refused load_option_of c.args.bytes.now NotNulTerminated
    (c.if-bytes-lt-DESCRIPTION_OFFSET.false, rw c.split_at.ensures.back at c.in_default.ensures.none)

-- The rest follows the description.
rest : (c : In-Some) → HasRest c.args.bytes.now c.in-Some.rest.now
rest c =
    rest_after c.args.bytes.now _ _ c.in-Some.rest.now c.if-bytes-lt-DESCRIPTION_OFFSET.false
    c.split_at.ensures.back c.in-Some.ensures.split c.in-Some.ensures.nul c.in-Some.ensures.units

pub returns-then-rest-length : goal.returns-then-rest-length
returns-then-rest-length c =
    let found = rest (goal.at.returns-then-rest-length c).In-Some in
    refused load_option_of c.args.bytes.now FilePathListTooLong
    (c.in-Some.rest.now, found, omega (arith, c.if-rest-length.true, c.from-length.ensures, c.u16_at.ensures))

pub returns-in_err-file_path : goal.returns-in_err-file_path
returns-in_err-file_path c =
    let bytes = c.args.bytes.now in
    let found = rest (goal.at.returns-in_err-file_path c).In-Some in
    let passed_on = err_from_is_err_and c.from_residual.result c.from_residual.ensures.1 in
    let stated : c.from-length.result ≡ u16_at bytes 4 = c.from-length.ensures ∙ c.u16_at.ensures in
    let none : ¬ HasPath (take (u16_at bytes 4) c.in-Some.rest.now) =
    rw (c.split_at-2.ensures.front, stated) at c.in_err-file_path.ensures.err in
    let reads : ReadsLoadOption load_option_of bytes (Err (FilePath c.in_err-file_path.field-0.0)) =
    refused load_option_of bytes (FilePath c.in_err-file_path.field-0.0)
    (c.in-Some.rest.now, found, omega (arith, c.if-rest-length.false, stated), none) in
    rw (passed_on.1, passed_on.2) reads

pub returns : goal.returns
returns c =
    let bytes = c.args.bytes.now in
    let stated = c.from-length.ensures ∙ c.u16_at.ensures in
    record {
      ok = whole_load_option bytes (slice_units c.in-Some.description) c.in-Some.rest.now c.split_at-2.result.0.now
          c.split_at-2.result.1.now c.from-length.result (attribute_bits c.from_bits_retain.result) (path_nodes c.in_ok-file_path.file_path)
          (record {
            each = λ i. omega (arith, c.type_inv.bytes i);
            room = c.if-bytes-lt-DESCRIPTION_OFFSET.false;
            attributes_fit = omega (arith, c.from_bits_retain.ensures);
            attributes_is = c.from_bits_retain.ensures ∙ c.u32_at.ensures;
            length_fits = omega arith;
            length_is = stated;
            nul = c.in-Some.ensures.nul;
            nonzero = c.in-Some.ensures.units;
            split = sym c.split_at.ensures.back ∙ c.in-Some.ensures.split;
            within = c.if-rest-length.false;
            list_is = c.split_at-2.ensures.front;
            optional_is = c.split_at-2.ensures.back;
            path = c.in_ok-file_path.ensures.ok.0;
            first = c.in_ok-file_path.ensures.ok.1;
          });
      err = tt;
      none = tt;
    }
