-- Devices are built one after the other.
use Rattle.std.proofs.Common.{List, ◌++◌, Ok, Err, Result}

abbrev pub behind : {X E : Type 0} → List X → Result (List X) E → Result (List X) E
behind xs (Ok ys) = Ok (xs ++ ys)
behind xs (Err e) = Err e
