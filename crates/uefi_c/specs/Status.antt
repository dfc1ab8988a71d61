-- What the functions return. The numbers never change their meaning.
use Rattle.std.specs.Prelude.{ℕ, ◌≡◌, ◌⊎◌, ◌==◌, List, [], ◌∷◌, codes}
use Rattle.std.specs.List.{find}
use Rattle.std.specs.Option.{option_map_or}

-- Success: the result is in `out`.
abbrev pub ok : ℕ
ok = 0

-- A walk has ended: nothing follows, or there is no item of this index.
abbrev pub ended : ℕ
ended = 1

-- The buffer is too small. The call sets the length that it needs.
abbrev pub buffer_too_small : ℕ
buffer_too_small = 2

-- The bytes are no text of the kind that is asked for.
abbrev pub not_text : ℕ
not_text = 3

-- The text spells no number of 1, 2, 4 or 8 bytes.
abbrev pub not_number : ℕ
not_number = 4

-- The standard has no name for the number.
abbrev pub no_name : ℕ
no_name = 5

-- The data have more bytes than the record can state.
abbrev pub too_long : ℕ
too_long = 6

-- The bytes end within a field, or before one.
abbrev pub too_short : ℕ
too_short = 7

-- Bytes follow that aren't part of it.
abbrev pub left_over : ℕ
left_over = 8

-- The bytes end inside the item that begins at the offset.
abbrev pub cut : ℕ
cut = 9

-- The bytes end, without the node or the tag that ends the list.
abbrev pub no_end : ℕ
no_end = 10

-- The node at the offset states a length below 4.
abbrev pub short_node : ℕ
short_node = 11

-- The bytes begin with no path.
abbrev pub no_path : ℕ
no_path = 12

-- No unit of the description, the name or the label is zero.
abbrev pub not_nul_terminated : ℕ
not_nul_terminated = 13

-- Fewer bytes follow than the file path list is stated to have.
abbrev pub file_path_list_too_long : ℕ
file_path_list_too_long = 14

-- The file path list begins with no path.
abbrev pub no_file_path : ℕ
no_file_path = 15

-- The byte at the offset is neither tag of the list.
abbrev pub unknown_tag : ℕ
unknown_tag = 16

-- The bytes are no memory map with this stride.
abbrev pub not_map : ℕ
not_map = 17

-- A field of the time is out of its range.
abbrev pub bad_time : ℕ
bad_time = 18

-- The data aren't that structure, whole and alone.
abbrev pub other_data : ℕ
other_data = 19

-- The log has no header of version 2.
abbrev pub no_header : ℕ
no_header = 20

-- The log has no event, or none starts at the offset.
abbrev pub no_event : ℕ
no_event = 21

-- The event starts before the last entry, and ends after it.
abbrev pub crosses_last_entry : ℕ
crosses_last_entry = 22

-- A digest is of an algorithm that has no row in the table.
abbrev pub unknown_algorithm : ℕ
unknown_algorithm = 23

-- The event states more digests than the table has rows.
abbrev pub too_many_digests : ℕ
too_many_digests = 24

-- The table has too many rows.
abbrev pub too_many_algorithms : ℕ
too_many_algorithms = 25

-- The event has no digest of the algorithm.
abbrev pub no_digest : ℕ
no_digest = 26

-- The event has two digests of the algorithm, or more.
abbrev pub two_digests : ℕ
two_digests = 27

-- The digest hasn't the length that the bank's digests have.
abbrev pub other_length : ℕ
other_length = 28

-- The event states a locality at which no TPM is started: not 0, 3 or 4.
abbrev pub unknown_locality : ℕ
unknown_locality = 29

-- The event states another locality than one before it, or than the 4 of a hardware CRTM.
abbrev pub other_locality : ℕ
other_locality = 30

-- The event states the locality after PCR 0 was extended, but not by a hardware CRTM.
abbrev pub late_locality : ℕ
late_locality = 31

-- The log doesn't say at which locality the TPM was started.
abbrev pub no_locality : ℕ
no_locality = 32

-- There is no hash function here for the algorithm.
abbrev pub no_hash : ℕ
no_hash = 33

-- There is no such PCR: its number is above 23.
abbrev pub no_pcr : ℕ
no_pcr = 34

-- A PCR is selected of a bank that isn't active in the log, or can't be replayed.
abbrev pub no_bank : ℕ
no_bank = 35

-- The first four bytes aren't those of what a TPM generates.
abbrev pub not_generated : ℕ
not_generated = 36

-- The TPM signed another structure.
abbrev pub not_quote : ℕ
not_quote = 37

-- The byte `safe` of the clock is neither 0 nor 1.
abbrev pub bad_safe : ℕ
bad_safe = 38

-- A PCR above 23 is selected, or a bitmap has more than four bytes.
abbrev pub bad_selection : ℕ
bad_selection = 39

-- The bytes at the offset begin with no signature list.
abbrev pub bad_signature_list : ℕ
bad_signature_list = 40

-- A signature has at least the sixteen bytes of its owner.
abbrev pub bad_signature_size : ℕ
bad_signature_size = 41

-- The node is an end-entire node, with which each path ends.
abbrev pub ends_path : ℕ
ends_path = 42

-- No node has the name before the offset.
abbrev pub unknown_node : ℕ
unknown_node = 43

-- The character at the offset isn't expected.
abbrev pub unexpected_character : ℕ
unexpected_character = 44

-- Something is missing from the text at the offset.
abbrev pub missing_text : ℕ
missing_text = 45

-- A status is one of these.
abbrev pub IsOneOf : ℕ → List ℕ → Type 0
IsOneOf status [] = ⊥
IsOneOf status (one ∷ others) = (status ≡ one) ⊎ IsOneOf status others

-- What each says.
abbrev pub status_texts : List (ℕ × List ℕ)
status_texts =
    (ok, codes "success")
    ∷ (ended, codes "the walk has ended")
    ∷ (buffer_too_small, codes "the buffer is too small")
    ∷ (not_text, codes "the bytes are no such text")
    ∷ (not_number, codes "the text spells no number of 1, 2, 4 or 8 bytes")
    ∷ (no_name, codes "the number has no name")
    ∷ (too_long, codes "the data are too long for the record")
    ∷ (too_short, codes "the bytes end within a field, or before one")
    ∷ (left_over, codes "bytes are left over")
    ∷ (cut, codes "the bytes end inside an item")
    ∷ (no_end, codes "the bytes end before the end of the list")
    ∷ (short_node, codes "a node states a length below 4")
    ∷ (no_path, codes "the bytes begin with no device path")
    ∷ (not_nul_terminated, codes "the text has no NUL")
    ∷ (file_path_list_too_long, codes "the file path list is longer than the bytes")
    ∷ (no_file_path, codes "the file path list begins with no device path")
    ∷ (unknown_tag, codes "a byte is neither tag of the list")
    ∷ (not_map, codes "the bytes are no memory map with this stride")
    ∷ (bad_time, codes "a field of the time is out of its range")
    ∷ (other_data, codes "the data are another structure")
    ∷ (no_header, codes "the log has no header of version 2")
    ∷ (no_event, codes "there is no event")
    ∷ (crosses_last_entry, codes "an event ends after the start of the last one")
    ∷ (unknown_algorithm, codes "a digest is of an algorithm that isn't in the header")
    ∷ (too_many_digests, codes "an event has more digests than the header has algorithms")
    ∷ (too_many_algorithms, codes "the header has too many algorithms")
    ∷ (no_digest, codes "the event has no digest of the algorithm")
    ∷ (two_digests, codes "the event has two digests of the algorithm")
    ∷ (other_length, codes "a digest has another length than the algorithm's")
    ∷ (unknown_locality, codes "the event states a locality at which no TPM starts")
    ∷ (other_locality, codes "the event states another locality than the log before it")
    ∷ (late_locality, codes "the event states the locality after PCR 0 was extended")
    ∷ (no_locality, codes "the log states no locality")
    ∷ (no_hash, codes "there is no hash function for the algorithm")
    ∷ (no_pcr, codes "there is no such PCR")
    ∷ (no_bank, codes "the bank isn't active in the log")
    ∷ (not_generated, codes "no TPM generated the bytes")
    ∷ (not_quote, codes "the TPM signed another structure than a quote")
    ∷ (bad_safe, codes "the byte `safe` is neither 0 nor 1")
    ∷ (bad_selection, codes "the selection isn't one of a PC")
    ∷ (bad_signature_list, codes "the bytes begin with no signature list")
    ∷ (bad_signature_size, codes "the size of a signature is below 16")
    ∷ (ends_path, codes "the node ends a path")
    ∷ (unknown_node, codes "no node has the name")
    ∷ (unexpected_character, codes "a character isn't expected")
    ∷ (missing_text, codes "something is missing from the text") ∷ []

unfoldable pub status_text : ℕ → List ℕ
status_text status = option_map_or (λ row. row.1) (find (λ row. row.0 == status) status_texts) (codes "unknown status")
