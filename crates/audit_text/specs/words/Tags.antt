-- The tags of tagged events.
use Rattle.std.specs.Prelude.{ℕ, ◌==◌, List, ◌++◌, Option, Some, None, codes, false, if◌then◌else◌}
use Rattle.std.specs.Fmt.{digits}

-- What Linux (`INITRD_EVENT_TAG_ID` and `LOAD_OPTIONS_EVENT_TAG_ID`) and systemd (`LOADER_CONF_EVENT_TAG_ID` and so on) call the tags of what they measure.
unfoldable pub tag_name : ℕ → Option (List ℕ)
tag_name id =
    if id == 0x8f3b22ec then Some (codes "INITRD")
    else if id == 0x8f3b22ed then Some (codes "LOAD_OPTIONS")
    else if id == 0xf5bc582a then Some (codes "LOADER_CONF")
    else if id == 0x6c46f751 then Some (codes "DEVICETREE_ADDON")
    else if id == 0x49dffe0f then Some (codes "INITRD_ADDON")
    else if id == 0xdac08e1a then Some (codes "UCODE_ADDON")
    else if id == 0x13aed6db then Some (codes "UKI_PROFILE")
    else None

-- The name of a tag, if it has one, and its number.
unfoldable pub named_tag : Option (List ℕ) → ℕ → List ℕ
named_tag (Some name) id = name ++ (codes " 0x" ++ digits 16 false id)
named_tag None id = codes "0x" ++ digits 16 false id

abbrev pub tag_text : ℕ → List ℕ
tag_text id = named_tag (tag_name id) id
