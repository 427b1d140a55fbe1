-- The codes of bytes are codes.
use Rattle.std.proofs.Common.{◌≡◌, ℕ, suc, ◌<◌, Bool, true, false, ◌==◌, if◌then◌else◌, List, [], ◌∷◌, drop, refl, arith}
use Rattle.std.proofs.lemmas.Bool.{and_from, and_parts, lt-ltb}
use Rattle.std.specs.List.{list_all}
use Rattle.definition_text.specs.Content.{after_return_code, content_codes}
use Rattle.state_verdicts.specs.Codes.{is_code}
use Rattle.state_verdicts.specs.TextCodes.{AreCodesLaw}

after_first : (cs : List ℕ) → list_all is_code cs ≡ true → list_all is_code (drop 1 cs) ≡ true
after_first [] h = h
after_first (c ∷ cs) h = (and_parts (is_code c) (list_all is_code cs) h).1

return_by : (feed : Bool) (cs : List ℕ) → list_all is_code cs ≡ true → list_all is_code (if feed then 257 ∷ drop 1 cs else 13 ∷ cs) ≡ true
return_by true cs h = after_first cs h
return_by false cs h = h

after_return : (bs cs : List ℕ) → list_all is_code cs ≡ true → list_all is_code (after_return_code bs cs) ≡ true
after_return [] cs h = h
after_return (b ∷ bs) cs h = return_by (b == 10) cs h

by_byte : (b : ℕ) (bs : List ℕ) (return : Bool) → b < 256 → list_all is_code (content_codes bs) ≡ true
    → list_all is_code (if return then after_return_code bs (content_codes bs) else b ∷ content_codes bs) ≡ true
by_byte b bs true low h = after_return bs (content_codes bs) h
by_byte b bs false low h = and_from (is_code b) (list_all is_code (content_codes bs)) (lt-ltb b 258 (omega (arith, low))) h

pub are_codes : AreCodesLaw
are_codes [] low = refl
are_codes (b ∷ bs) low = by_byte b bs (b == 13) (low 0) (are_codes bs (λ i. low (suc i)))
