-- What contracts see of the reading of an IPv6 address.
use Rattle.std.specs.Prelude.{ℕ, ◌≡◌, ◌≤◌, ◌<◌, ◌-◌, List, length, take, drop, replicate, true, false, Some}
use Rattle.uefi_path_text.specs.parse.Ipv6.{side_in}
use Rattle.uefi_path_text.specs.declared.parse.ipv6.Side.{Side}

-- The bytes of the groups, with zeros after them.
abbrev pub side_bytes : Side → List ℕ
side_bytes side = take side.len side.bytes

pub record IsSide (side : Side) : Type 0 where
  pub few : side.len ≤ 16
  pub long : length side.bytes ≡ 16
  pub zeros : drop side.len side.bytes ≡ replicate (16 - side.len) 0

-- No groups of at most `room` bytes are the text, and none that end with an IPv4 address and have `least` bytes or more.
pub record IsNoSide (text : List ℕ) (least room : ℕ) : Type 0 where
  pub groups : (bytes : List ℕ) → side_in false text ≡ Some bytes → room < length bytes
  pub ends : (bytes : List ℕ) → side_in true text ≡ Some bytes → least ≤ length bytes → room < length bytes
