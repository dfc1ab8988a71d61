-- What `info` lists: the file information record in the bytes that were written.
use Rattle.std.specs.Prelude.{ℕ, List, [], ◌∷◌, ◌++◌, codes, flat_map, ◌≡◌, Option, None, Some, length, take}
use Rattle.std.specs.Fmt.{decimal}
use Rattle.uefi_base.specs.Ucs2.{characters_of}
use Rattle.uefi_records.specs.time.Fields.{TimeFields, time_bytes}
use Rattle.uefi_records.specs.file.FileInfo.{FileFields, file_fields, file_info_verdict, size_in}
use Rattle.shown.specs.HexText.{hex_of, hex_number}
use Rattle.shown.specs.HexName.{name_field}
use Rattle.uefi_records.specs.file.Verdict.{Verdict, without_name, too_small, accepted}
use Rattle.uefi_listing.specs.declared.listing.Outcome.{Outcome}
use Rattle.uefi_listing.specs.declared.listing.Outcome.TheVariants.{Listed, Refused}

-- The sixteen bytes of a time in hex.
unfoldable pub stamp_text : TimeFields → List ℕ
stamp_text time = hex_of (time_bytes time)

-- The size that the record states, the fields, and the name without its NUL.
unfoldable pub info_lines : ℕ → FileFields → List ℕ → List ℕ
info_lines size fields name =
    codes "size " ++ decimal size
    ++ codes "\nfile " ++ decimal fields.file_size
    ++ codes "\nphysical " ++ decimal fields.physical_size
    ++ codes "\ncreated " ++ stamp_text fields.create_time
    ++ codes "\naccessed " ++ stamp_text fields.last_access_time
    ++ codes "\nmodified " ++ stamp_text fields.modification_time
    ++ codes "\nattribute " ++ hex_number fields.attribute
    ++ codes "\nname" ++ name_field (characters_of name)
    ++ codes "\n"

-- The line of a refusal, by the size that the record needs, if there is a name.
unfoldable pub refused_info_line : Option ℕ → List ℕ
refused_info_line None = codes "refused BAD_BUFFER_SIZE\n"
refused_info_line (Some size) = codes "refused BUFFER_TOO_SMALL(" ++ decimal size ++ codes ")\n"

-- The text says why there is no record in what was written.
abbrev pub RefusesInfo : Verdict → List ℕ → Type 0
RefusesInfo without_name text = text ≡ refused_info_line None
RefusesInfo (too_small size) text = text ≡ refused_info_line (Some size)
RefusesInfo (accepted name) text = ⊥

-- The text lists the record, with its name, that is in the first bytes, those that were written.
abbrev pub InfoListing : ℕ → List ℕ → List ℕ → Outcome → Type 0
InfoListing written bytes text Listed =
    (name : List ℕ) × (file_info_verdict (take written bytes) (length bytes) ≡ accepted name) × (text ≡ info_lines (size_in bytes) (file_fields bytes) name)
InfoListing written bytes text Refused = RefusesInfo (file_info_verdict (take written bytes) (length bytes)) text
