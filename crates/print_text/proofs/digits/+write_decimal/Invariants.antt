-- Each call writes the digits of a tenth of the number.
use Rattle.print_text.proofs.digits.+write_decimal.Given as goal

abbrev pub decreases-write_decimal : goal.decreases-write_decimal
decreases-write_decimal l = l.n
