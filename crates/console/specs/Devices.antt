-- The words of a line that describe devices.
use Rattle.std.specs.Prelude.{ℕ, ◌-◌, cond, List, [], ◌∷◌, length, map, take, drop, Some, None, codes, Option, ◌==◌, slice_index_or}
use Rattle.std.specs.List.{slice_split}
use Rattle.std.specs.Option.{option_and_then, option_map}
use Rattle.std.specs.Str.{bytes_eq}
use Rattle.console.specs.declared.layer.Layer.{Layer}
use Rattle.console.specs.declared.layer.Layer.TheVariants.{Trail, Patch}
use Rattle.console.specs.Hex.{hex_bytes}
use Rattle.console.specs.Plans.{Planned, plan_of}

-- all of them, if each is some
abbrev pub all_some : {X : Type 0} → List (Option X) → Option (List X)
all_some [] = Some []
all_some (None ∷ xs) = None
all_some (Some x ∷ xs) = option_map (λ ys. x ∷ ys) (all_some xs)

-- what follows the prefix, if the bytes begin with it
abbrev pub after_prefix : List ℕ → List ℕ → Option (List ℕ)
after_prefix prefix bs = cond (bytes_eq (take (length prefix) bs) prefix) (Some (drop (length prefix) bs)) None

abbrev pub patch_of : List ℕ → Option Layer
patch_of bs = cond (length bs == 16) (Some (Patch bs)) None

-- `trail`, or `patch=` and the digits of sixteen bytes
abbrev pub layer_of : List ℕ → Option Layer
layer_of piece =
    cond (bytes_eq piece (codes "trail")) (Some Trail)
    (option_and_then (λ digits. option_and_then patch_of (hex_bytes digits)) (after_prefix (codes "patch=") piece))

-- nothing, or a colon, which is 58, and digits
abbrev pub replies_in : List ℕ → Option (List ℕ)
replies_in [] = Some []
replies_in (c ∷ digits) = cond (c == 58) (hex_bytes digits) None

-- `projector`, and its replies
abbrev pub replies_of : List ℕ → Option (List ℕ)
replies_of piece = option_and_then replies_in (after_prefix (codes "projector") piece)

abbrev pub plan_from : Option (List Layer) → Option (List ℕ) → Option Planned
plan_from None replies = None
plan_from (Some ls) None = None
plan_from (Some ls) (Some rs) = plan_of ls rs

-- the last piece is the projector, those before it are its layers
abbrev pub by_pieces : List (List ℕ) → Option Planned
by_pieces ps =
    let n : ℕ = length ps - 1 in
    plan_from (all_some (map layer_of (take n ps))) (replies_of (slice_index_or ps n []))

-- what stands between slashes, which are 47
abbrev pub pieces : List ℕ → List (List ℕ)
pieces word = slice_split (λ b. b == 47) word

abbrev pub device_of : List ℕ → Option Planned
device_of word = by_pieces (pieces word)
