-- The number of each refusal, and of an answer: 0 where nothing is refused.
use Rattle.std.specs.Prelude.{ℕ, Result, Ok, Err}
use Rattle.refusal.specs.declared.Refusal.{Refusal}
use Rattle.refusal.specs.declared.Refusal.TheVariants.{TooShort, UnknownMark, OtherEdition, TooMany, WrongLength, BadField, WrongWrites, OutOfRange, NoReferenceLeft, NoFrame, NotPinned, PinsFull, NoRoom, NotSound, OtherSettings, HasPins}
use Rattle.refusal.specs.Refusals.{too_short, unknown_mark, other_edition, too_many, wrong_length, bad_field, wrong_writes, out_of_range, no_reference_left, no_frame, not_pinned, pins_full, no_room, not_sound, other_settings, has_pins}

-- the number of a refusal
abbrev pub number_of : Refusal → ℕ
number_of TooShort = too_short
number_of UnknownMark = unknown_mark
number_of OtherEdition = other_edition
number_of TooMany = too_many
number_of WrongLength = wrong_length
number_of BadField = bad_field
number_of WrongWrites = wrong_writes
number_of OutOfRange = out_of_range
number_of NoReferenceLeft = no_reference_left
number_of NoFrame = no_frame
number_of NotPinned = not_pinned
number_of PinsFull = pins_full
number_of NoRoom = no_room
number_of NotSound = not_sound
number_of OtherSettings = other_settings
number_of HasPins = has_pins

-- the number of an answer: 0, or the refusal's
abbrev pub answer_of : {T : Type 0} → Result T Refusal → ℕ
answer_of (Ok value) = 0
answer_of (Err refusal) = number_of refusal
