-- Bytes written as hexadecimal digits.
use Rattle.std.specs.Prelude.{ℕ, ◌+◌, ◌-◌, ◌*◌, Bool, cond, ◌&&◌, List, [], ◌∷◌, Some, None, Option, nat_le}

abbrev pub within : ℕ → ℕ → ℕ → Bool
within low high c = nat_le low c && nat_le c high

-- the digits 0 to 9, A to F and a to f
abbrev pub hex_value : ℕ → Option ℕ
hex_value c = cond (within 48 57 c) (Some (c - 48)) (cond (within 65 70 c) (Some (c - 55)) (cond (within 97 102 c) (Some (c - 87)) None))

abbrev pub byte_of : Option ℕ → Option ℕ → Option ℕ
byte_of None low = None
byte_of (Some h) None = None
byte_of (Some h) (Some l) = Some (16 * h + l)

abbrev pub hex_byte : ℕ → ℕ → Option ℕ
hex_byte c d = byte_of (hex_value c) (hex_value d)

abbrev pub onto : Option ℕ → Option (List ℕ) → Option (List ℕ)
onto None bs = None
onto (Some b) None = None
onto (Some b) (Some bs) = Some (b ∷ bs)

abbrev pub hex_bytes : List ℕ → Option (List ℕ)
hex_bytes [] = Some []
hex_bytes (c ∷ []) = None
hex_bytes (c ∷ d ∷ cs) = onto (hex_byte c d) (hex_bytes cs)
