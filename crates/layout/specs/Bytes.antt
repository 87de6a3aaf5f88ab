-- RULES, Bytes: "Each layout on this page begins with the same head: four bytes, the length field, one number that says how many bytes follow these four; then one byte, the version, which is 1." "a number of several bytes has its highest byte first"
use Rattle.std.specs.Prelude.{List, [], ◌∷◌, ◌++◌, ℕ, ◌+◌, ◌*◌, ◌/◌, ◌%◌, get_or}

-- the byte at place i, from 0; 0 past the end
abbrev pub byte_at : List ℕ → ℕ → ℕ
byte_at b i = get_or b i 0

-- the number that the four bytes from place i on write
abbrev pub four_at : List ℕ → ℕ → ℕ
four_at b i = byte_at b i * 16777216 + byte_at b (i + 1) * 65536 + byte_at b (i + 2) * 256 + byte_at b (i + 3)

abbrev pub length_field : List ℕ → ℕ
length_field b = four_at b 0

abbrev pub version : List ℕ → ℕ
version b = byte_at b 4

-- the four bytes that write a number below 4,294,967,296
abbrev pub four_bytes : ℕ → List ℕ
four_bytes n = n / 16777216 ∷ n / 65536 % 256 ∷ n / 256 % 256 ∷ n % 256 ∷ []

-- the same of eight bytes, and of a number of 64 bits
abbrev pub eight_at : List ℕ → ℕ → ℕ
eight_at b i = four_at b i * 4294967296 + four_at b (i + 4)

abbrev pub eight_bytes : ℕ → List ℕ
eight_bytes n = four_bytes (n / 4294967296) ++ four_bytes (n % 4294967296)
