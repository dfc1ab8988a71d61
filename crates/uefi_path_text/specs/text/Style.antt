-- The style of a text, by its two flags (UEFI 2.10, 10.6.2).
use Rattle.std.specs.Prelude.{Bool}
use Rattle.uefi_path_text.specs.declared.text.style.Style.{Style}

abbrev pub style : Bool → Bool → Style
style display_only allow_shortcuts = record { display_only = display_only; allow_shortcuts = allow_shortcuts }
