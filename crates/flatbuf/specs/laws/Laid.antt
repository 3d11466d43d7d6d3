-- The lengths of what is written.
use Rattle.std.proofs.Common.{◌≡◌, ℕ, ◌*◌, List, [], ◌∷◌, ◌++◌, length, refl, arith, length-append}
use Rattle.byteorder.specs.Endian.{little_bytes}
use Rattle.byteorder.specs.Numbers.{length-bytes_low_first}
use Rattle.flatbuf.specs.Laid.{struct_bytes}

pub length-struct_bytes : (ps : List (ℕ × ℕ)) → length (struct_bytes ps) ≡ 16 * length ps
unfolding struct_bytes
length-struct_bytes [] = refl
length-struct_bytes (p ∷ ps) =
    omega (arith, length-append (little_bytes 8 p.0) (little_bytes 8 p.1 ++ struct_bytes ps), length-append (little_bytes 8 p.1) (struct_bytes ps), length-bytes_low_first 0 8 p.0, length-bytes_low_first 0 8 p.1, length-struct_bytes ps)
