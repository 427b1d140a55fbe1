-- The text of a literal has no ending.
use Rattle.std.proofs.Common.{◌≡◌, ℕ, zero, suc, true, false, not, ◌||◌, ◌&&◌, eqb, List, [], ◌∷◌, Option, None, Some, inl, inr, refl, sym, ap, ◌∙◌, subst}
use Rattle.std.proofs.Common.{take, length}
use Rattle.laws_endings.proofs.Prelude.{and_parts, begins_caselessly, both_ways, codes, cond_both, cut_more, ends_literal, eq-eqb, eqb-true}
use Rattle.laws_endings.proofs.Prelude.{false_from_ne_true, follows_label, is_cut, is_eol, is_space, is_white, list_all, literal_name, literal_run}
use Rattle.laws_endings.proofs.Prelude.{literal_start, literal_start_at, LiteralStart, may_precede_protocol, may_precede_www, not-true, or_cases, or_parts}
use Rattle.laws_endings.proofs.Prelude.{or_start, Protocol, protocol_start, reverse, reverse-append, to_ascii_lowercase, true≢false, without_tail, Www}
use Rattle.laws_endings.proofs.Prelude.{www_start}
use Rattle.laws_endings.proofs.Literals.{is_apart}
use Rattle.laws_endings.proofs.Each.{Each, each-append}
use Rattle.laws_endings.proofs.Fits.{Single, Plain}

each_tail : (P : ℕ → Type 0) (k : ℕ) (cs : List ℕ) → Each P cs → Each P (without_tail k cs)
each_tail P zero [] h = tt
each_tail P (suc k) [] h = tt
each_tail P zero (c ∷ cs) h = cond_both (is_cut c cs) (without_tail (cut_more c cs) cs) (c ∷ cs) (Each P) (λ _. each_tail P (cut_more c cs) cs h.1) (λ _. h)
each_tail P (suc k) (c ∷ cs) h = each_tail P k cs h.1

each_reverse : (P : ℕ → Type 0) (cs : List ℕ) → Each P cs → Each P (reverse cs)
each_reverse P [] h = tt
each_reverse P (c ∷ cs) h = subst (Each P) (sym (reverse-append (c ∷ []) cs)) (each-append P (reverse cs) (c ∷ []) (each_reverse P cs h.1) (h.0, tt))

run_plain : (cs : List ℕ) → Each Single cs → Each Plain (literal_run cs)
run_plain [] h = tt
run_plain (c ∷ cs) h =
    cond_both (ends_literal c cs) [] (c ∷ literal_run cs) (Each Plain) (λ _. tt)
    (λ goes. ((h.0, (or_parts (is_white c) (is_eol c) (or_parts (is_space c) (eqb c 60 || (eqb c 93 && follows_label cs)) goes).0).1), run_plain cs h.1))

pub name_plain : (cs : List ℕ) → Each Single cs → Each Plain (literal_name cs)
name_plain cs h =
    let run = literal_run cs in
    each_reverse Plain (without_tail 0 (reverse run)) (each_tail Plain 0 (reverse run) (each_reverse Plain run (run_plain cs h)))

-- ---- what it begins with

apart_ending : (t c : ℕ) → is_apart t ≡ true → eqb (to_ascii_lowercase t) (to_ascii_lowercase c) ≡ true → is_eol c ≡ false
apart_ending t c apart same =
    let small = to_ascii_lowercase t in
    let first = and_parts (not (eqb small 10)) (not (eqb small 13) && not (eqb small 257)) apart in
    let last = and_parts (not (eqb small 13)) (not (eqb small 257)) first.1 in
    let is : (e : ℕ) → to_ascii_lowercase e ≡ e → eqb c e ≡ true → eqb small e ≡ true =
    λ e low at. eq-eqb small e (eqb-true small (to_ascii_lowercase c) same ∙ ap to_ascii_lowercase (eqb-true c e at) ∙ low) in
    false_from_ne_true (is_eol c) (λ eol. elim (or_cases (eqb c 10 || eqb c 13) (eqb c 257) eol) [
      | inl lines ↦ elim (or_cases (eqb c 10) (eqb c 13) lines) [
        | inl at ↦ both_ways (eqb small 10) (not-true (eqb small 10) first.0) (is 10 refl at)
        | inr at ↦ both_ways (eqb small 13) (not-true (eqb small 13) last.0) (is 13 refl at)
      ]
      | inr at ↦ both_ways (eqb small 257) (not-true (eqb small 257) last.1) (is 257 refl at)
    ])

begun_plain : (text cs : List ℕ) → list_all is_apart text ≡ true → begins_caselessly text cs ≡ true → Each Single cs → Each Plain (take (length text) cs)
begun_plain [] cs apart h p = tt
begun_plain (t ∷ ts) [] apart h p = absurd (true≢false (sym h))
begun_plain (t ∷ ts) (c ∷ cs) apart h p =
    let aparts = and_parts (is_apart t) (list_all is_apart ts) apart in
    let parts = and_parts (eqb (to_ascii_lowercase t) (to_ascii_lowercase c)) (begins_caselessly ts cs) h in
    ((p.0, apart_ending t c aparts.0 parts.0), begun_plain ts cs aparts.1 parts.1 p.1)

abbrev pub StartPlain : List ℕ → Option LiteralStart → Type 0
StartPlain cs None = true ≡ true
StartPlain cs (Some start) = Each Plain (take start.size cs)

plain_or : (cs : List ℕ) (a b : Option LiteralStart) → StartPlain cs a → StartPlain cs b → StartPlain cs (or_start a b)
plain_or cs None b p q = q
plain_or cs (Some start) b p q = p

pub start_plain : (previous : Option ℕ) (cs : List ℕ) → Each Single cs → StartPlain cs (literal_start_at previous cs)
start_plain previous cs p =
    plain_or cs (www_start previous cs) (protocol_start previous cs)
    (cond_both (may_precede_www previous && begins_caselessly (codes "www.") cs) (Some (literal_start Www 4)) None (StartPlain cs)
    (λ e. begun_plain (codes "www.") cs refl (and_parts (may_precede_www previous) (begins_caselessly (codes "www.") cs) e).1 p) (λ _. refl))
    (cond_both (not (may_precede_protocol previous)) None _ (StartPlain cs) (λ _. refl)
    (λ _. cond_both (begins_caselessly (codes "http://") cs) (Some (literal_start Protocol 7)) _ (StartPlain cs)
    (λ e. begun_plain (codes "http://") cs refl e p)
    (λ _. cond_both (begins_caselessly (codes "https://") cs) (Some (literal_start Protocol 8)) None (StartPlain cs)
    (λ e. begun_plain (codes "https://") cs refl e p) (λ _. refl))))
