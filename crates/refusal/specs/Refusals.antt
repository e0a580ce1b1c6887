-- Numbered refusals: the table, and the order in which a call looks for them. 0 stands for none.
use Rattle.std.specs.Prelude.{ℕ, zero, suc, Bool, true, false, List}
use Rattle.std.proofs.lemmas.List.Edits.{sets}

-- 1: under the header: 48 bytes, of an image 64
abbrev pub too_short : ℕ
too_short = 1

-- 2: unknown mark
abbrev pub unknown_mark : ℕ
unknown_mark = 2

-- 3: edition not 1, of a trace and of an image
abbrev pub other_edition : ℕ
other_edition = 3

-- 4: n above 8,000
abbrev pub too_many : ℕ
too_many = 4

-- 5: offset, length field or actual length wrong; writer's lists of unequal length
abbrev pub wrong_length : ℕ
wrong_length = 5

-- 6: a zero field not zero, or a bad kind
abbrev pub bad_field : ℕ
bad_field = 6

-- 7: write count differs from the records
abbrev pub wrong_writes : ℕ
wrong_writes = 7

-- 8: a setting out of range
abbrev pub out_of_range : ℕ
out_of_range = 8

-- 9: k is 50,000 at a reference
abbrev pub no_reference_left : ℕ
no_reference_left = 9

-- 10: a miss with all f frames in use and pinned
abbrev pub no_frame : ℕ
no_frame = 10

-- 11: unpin of a page not resident or with pin count 0
abbrev pub not_pinned : ℕ
not_pinned = 11

-- 12: pin of a resident page with pin count 255
abbrev pub pins_full : ℕ
pins_full = 12

-- 13: a lent buffer is too short
abbrev pub no_room : ℕ
no_room = 13

-- 14: pool not sound, or a count of the tally handed in above 4,000,000,000
abbrev pub not_sound : ℕ
not_sound = 14

-- 15: trace settings differ from the pool's
abbrev pub other_settings : ℕ
other_settings = 15

-- 17: a pin or unpin is present in a trace that is to give a curve
abbrev pub has_pins : ℕ
has_pins = 17

-- what follows where a demand is met, else its refusal: demands written one after the other are checked in that order
abbrev pub demand : Bool → ℕ → ℕ → ℕ
demand true refusal after = after
demand false refusal after = refusal

-- the first refusal, else the second
abbrev pub or_else : ℕ → ℕ → ℕ
or_else zero next = next
or_else (suc r) next = suc r

-- lent memory after a call: a refused call stores nothing; else the numbers go to the front of what was lent
abbrev pub stored : ℕ → List ℕ → List ℕ → List ℕ
stored zero numbers lent = sets lent 0 numbers
stored (suc r) numbers lent = lent
