use Rattle.text_parts.proofs.+put_digits.Given as goal

-- The number of digits allowed.
abbrev pub decreases-put_digits : goal.decreases-put_digits
decreases-put_digits l = l.n
