-- The refusals of the code by their numbers: document 01, "Turning a file down", and the orders that have landed.
use Rattle.std.specs.Prelude.{ℕ, ◌≤◌, Result, Ok, Err}
use Rattle.std.proofs.Common.{arith}
use Rattle.image.specs.declared.refusals.Refusal.{Refusal}
use Rattle.image.specs.declared.refusals.Refusal.TheVariants.{ListMalformed, KeyLengthWrong, KeysUnordered, TooManyKeys, SettingOutOfRange, OutputTooShort, StatedLengthWrong, FrameWrong, HeaderWrong, SpareBitSet, TrieWrong, TableWrong, SlotWrong, PlaceOutOfRange, QuestionMalformed, KeyTooLong, BoundsReversed, TooManyQuestions, ReplyBufferTooShort}

-- the document's number of each refusal
abbrev pub number_of : Refusal → ℕ
number_of ListMalformed = 1
number_of KeyLengthWrong = 2
number_of KeysUnordered = 3
number_of TooManyKeys = 4
number_of SettingOutOfRange = 5
number_of OutputTooShort = 7
number_of StatedLengthWrong = 8
number_of FrameWrong = 11
number_of HeaderWrong = 12
number_of SpareBitSet = 13
number_of TrieWrong = 14
number_of TableWrong = 15
number_of SlotWrong = 16
number_of PlaceOutOfRange = 17
number_of QuestionMalformed = 21
number_of KeyTooLong = 22
number_of BoundsReversed = 23
number_of TooManyQuestions = 24
number_of ReplyBufferTooShort = 25

-- an answer, in which a refusal is given by its number
abbrev pub by_number : {A : Type 0} → Result A Refusal → Result A ℕ
by_number (Ok x) = Ok x
by_number (Err r) = Err (number_of r)

-- No refusal has number 0, which stands for success.
pub number_positive : (r : Refusal) → 1 ≤ number_of r
number_positive ListMalformed = omega arith
number_positive KeyLengthWrong = omega arith
number_positive KeysUnordered = omega arith
number_positive TooManyKeys = omega arith
number_positive SettingOutOfRange = omega arith
number_positive OutputTooShort = omega arith
number_positive StatedLengthWrong = omega arith
number_positive FrameWrong = omega arith
number_positive HeaderWrong = omega arith
number_positive SpareBitSet = omega arith
number_positive TrieWrong = omega arith
number_positive TableWrong = omega arith
number_positive SlotWrong = omega arith
number_positive PlaceOutOfRange = omega arith
number_positive QuestionMalformed = omega arith
number_positive KeyTooLong = omega arith
number_positive BoundsReversed = omega arith
number_positive TooManyQuestions = omega arith
number_positive ReplyBufferTooShort = omega arith
