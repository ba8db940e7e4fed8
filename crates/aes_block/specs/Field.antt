-- The field of 2 ^ 8 elements (FIPS 197, section 4): an octet is the polynomial whose coefficients
-- are its bits, and the sum of two octets is their exclusive or.
use Rattle.std.specs.Prelude.{ℕ, zero, suc, ◌*◌, ◌/◌, ◌%◌, if◌then◌else◌, nat_lt, ◌==◌, bit_xor}
use Rattle.std.specs.Int.{w8, rotate_left}

-- the element times x: a shift, less the modulus x^8 + x^4 + x^3 + x + 1 where the degree reaches 8
-- (section 4.2)
unfoldable pub times_x : ℕ → ℕ
times_x a = if nat_lt a 128 then 2 * a else bit_xor (2 * a) 0x11B

-- the product of a with the n lowest coefficients of b
unfoldable pub partial_product : ℕ → ℕ → ℕ → ℕ
partial_product zero a b = 0
partial_product (suc n) a b = bit_xor (if b % 2 == 1 then a else 0) (partial_product n (times_x a) (b / 2))

-- the product of two elements (section 4.2)
unfoldable pub product : ℕ → ℕ → ℕ
product a b = partial_product 8 a b

-- a to the power of 2 ^ n
unfoldable pub square : ℕ → ℕ → ℕ
square zero a = a
square (suc n) a = square n (product a a)

-- the product of a ^ 2, a ^ 4, .., a ^ (2 ^ n)
unfoldable pub product_of_squares : ℕ → ℕ → ℕ
product_of_squares zero a = 1
product_of_squares (suc n) a = product (square (suc n) a) (product_of_squares n a)

-- the multiplicative inverse a ^ 254, which is 0 for 0 (section 4.4)
unfoldable pub inverse : ℕ → ℕ
inverse a = product_of_squares 7 a

-- the affine map over the field of two elements: bit i of the image is the sum of the bits i, i + 4,
-- i + 5, i + 6 and i + 7 (modulo 8) of b and of bit i of 63 in base 16 (section 5.1.1)
unfoldable pub affine_image : ℕ → ℕ
affine_image b =
    bit_xor (bit_xor (bit_xor (bit_xor (bit_xor b (rotate_left w8 b 1)) (rotate_left w8 b 2)) (rotate_left w8 b 3))
    (rotate_left w8 b 4)) 0x63

-- the S-box (section 5.1.1)
unfoldable pub sub_byte : ℕ → ℕ
sub_byte a = affine_image (inverse a)
