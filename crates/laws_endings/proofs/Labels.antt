-- Labels, destinations and titles of codes with another ending in place of each LF.
use Rattle.std.proofs.Common.{◌≡◌, ℕ, ◌+◌, List, [], ◌∷◌, None, Some, Option, Bool, true, false, cond, not, ◌||◌, ◌&&◌, ⊎_elim, eqb, refl, sym, ap, ◌∙◌}
use Rattle.laws_endings.proofs.Prelude.{after_ending, after_spaces, after_white, angle_end, at_line_start, bare_end, begins_with_space, closed_by, code_with}
use Rattle.laws_endings.proofs.Prelude.{codes_with, cond_both, destination_at, ends_angle, ends_bare, ends_blank_line, ends_label, eqb-true, if_any, if_label}
use Rattle.laws_endings.proofs.Prelude.{is_eol, is_label, is_space, is_too_deep, is_white, label_at, label_end, LineEnding, may_escape, nat_le, open_after}
use Rattle.laws_endings.proofs.Prelude.{option_map, or_cases, Part, title_at, title_close, title_end, title_until, unless_empty, up_to}
use Rattle.definition_inline.specs.Label.{has_text, label_size}
use Rattle.laws_endings.proofs.Codes.{cond-under, same_code, after_all-with, list_any-with, part_with, up_to-with, closed_by-with}

-- an ending's code is no quote
quote_apart : (code c : ℕ) → (eqb c 34 || eqb c 39) ≡ true → eqb code 34 ≡ false → eqb code 39 ≡ false → eqb code c ≡ eqb 10 c
quote_apart code c h p q =
    ⊎_elim (λ is. let same : c ≡ 34 = eqb-true c 34 is in ap (eqb code) same ∙ p ∙ sym (ap (eqb 10) same))
    (λ is. let same : c ≡ 39 = eqb-true c 39 is in ap (eqb code) same ∙ q ∙ sym (ap (eqb 10) same))
    (or_cases (eqb c 34) (eqb c 39) h)

module _ (e : LineEnding) where
  -- codes that may be missing
  abbrev if_codes : Option (List ℕ) → Option (List ℕ)
  if_codes end = option_map (codes_with e) end

  abbrev if_part : Option Part → Option Part
  if_part p = option_map (part_with e) p

  -- ---- white space

  pub after_spaces-with : (cs : List ℕ) → after_spaces (codes_with e cs) ≡ codes_with e (after_spaces cs)
  after_spaces-with cs = after_all-with e is_white refl refl cs

  after_ending-with : (cs : List ℕ) → after_ending (codes_with e cs) ≡ codes_with e (after_ending cs)
  after_ending-with [] = refl
  after_ending-with (c ∷ cs) =
      let more = codes_with e cs in
      same_code e (λ x. cond (is_eol x) (after_spaces more) (code_with e c ∷ more)) c refl refl
      ∙ cond-under (codes_with e) (is_eol c) (after_spaces-with cs) refl

  pub after_white-with : (cs : List ℕ) → after_white (codes_with e cs) ≡ codes_with e (after_white cs)
  after_white-with cs = ap after_ending (after_spaces-with cs) ∙ after_ending-with (after_spaces cs)

  pub begins_with_space-with : (cs : List ℕ) → begins_with_space (codes_with e cs) ≡ begins_with_space cs
  begins_with_space-with [] = refl
  begins_with_space-with (c ∷ cs) = same_code e is_space c refl refl

  -- ---- labels

  pub label_end-with : (escaped : Bool) (cs : List ℕ) → label_end escaped (codes_with e cs) ≡ if_codes (label_end escaped cs)
  label_end-with escaped [] = refl
  label_end-with escaped (c ∷ cs) =
      let more = codes_with e cs in
      same_code e (λ x. cond (ends_label escaped x) (cond (eqb x 93) (Some (code_with e c ∷ more)) None) (label_end (may_escape escaped x) more)) c refl refl
      ∙ cond-under if_codes (ends_label escaped c) (cond-under if_codes (eqb c 93) refl refl) (label_end-with (may_escape escaped c) cs)

  label_size-with : (start : Bool) (cs : List ℕ) → label_size start (codes_with e cs) ≡ label_size start cs
  label_size-with start [] = refl
  label_size-with start (c ∷ cs) =
      same_code e (λ x. cond (at_line_start start x) 0 1 + label_size (at_line_start start x) (codes_with e cs)) c refl refl
      ∙ ap (λ n. cond (at_line_start start c) 0 1 + n) (label_size-with (at_line_start start c) cs)

  pub is_label-with : (text : List ℕ) → is_label (codes_with e text) ≡ is_label text
  is_label-with text =
      ap (λ some. some && nat_le (label_size false (codes_with e text)) 999) (list_any-with e (λ c. not (is_space c)) refl refl text)
      ∙ ap (λ n. has_text text && nat_le n 999) (label_size-with false text)

  if_label-with : (found : Option Part) → if_label (if_part found) ≡ if_part (if_label found)
  if_label-with None = refl
  if_label-with (Some p) =
      ap (λ fits. cond fits (Some (part_with e p)) None) (is_label-with p.text) ∙ cond-under if_part (is_label p.text) refl refl

  pub label_at-with : (cs : List ℕ) → label_at (codes_with e cs) ≡ if_part (label_at cs)
  label_at-with [] = refl
  label_at-with (c ∷ cs) =
      let more = codes_with e cs in
      same_code e (λ x. cond (eqb x 91) (if_label (closed_by more (label_end false more))) None) c refl refl
      ∙ cond-under if_part (eqb c 91)
      (ap (λ end. if_label (closed_by more end)) (label_end-with false cs)
      ∙ ap if_label (closed_by-with e cs (label_end false cs))
      ∙ if_label-with (closed_by cs (label_end false cs)))
      refl

  -- ---- destinations

  angle_end-with : (escaped : Bool) (cs : List ℕ) → angle_end escaped (codes_with e cs) ≡ if_codes (angle_end escaped cs)
  angle_end-with escaped [] = refl
  angle_end-with escaped (c ∷ cs) =
      let more = codes_with e cs in
      same_code e (λ x. cond (ends_angle escaped x) (cond (eqb x 62) (Some (code_with e c ∷ more)) None) (angle_end (may_escape escaped x) more)) c refl refl
      ∙ cond-under if_codes (ends_angle escaped c) (cond-under if_codes (eqb c 62) refl refl) (angle_end-with (may_escape escaped c) cs)

  bare_end-with : (depth : Option ℕ) (escaped : Bool) (opened : ℕ) (cs : List ℕ)
      → bare_end depth escaped opened (codes_with e cs) ≡ if_codes (bare_end depth escaped opened cs)
  bare_end-with depth escaped opened [] = cond-under if_codes (eqb opened 0) refl refl
  bare_end-with depth escaped opened (c ∷ cs) =
      let more = codes_with e cs in
      let now = open_after escaped opened c in
      same_code e
      (λ x. cond (ends_bare escaped opened x) (cond (eqb opened 0) (Some (code_with e c ∷ more)) None)
      (cond (is_too_deep depth (open_after escaped opened x)) None (bare_end depth (may_escape escaped x) (open_after escaped opened x) more)))
      c refl refl
      ∙ cond-under if_codes (ends_bare escaped opened c) (cond-under if_codes (eqb opened 0) refl refl)
      (cond-under if_codes (is_too_deep depth now) refl (bare_end-with depth (may_escape escaped c) now cs))

  unless_empty-with : (text : List ℕ) (p : Part) → unless_empty (codes_with e text) (part_with e p) ≡ if_part (unless_empty text p)
  unless_empty-with [] p = refl
  unless_empty-with (c ∷ cs) p = refl

  if_any-with : (found : Option Part) → if_any (if_part found) ≡ if_part (if_any found)
  if_any-with None = refl
  if_any-with (Some p) = unless_empty-with p.text p

  pub destination_at-with : (depth : Option ℕ) (cs : List ℕ) → destination_at depth (codes_with e cs) ≡ if_part (destination_at depth cs)
  destination_at-with depth [] = refl
  destination_at-with depth (c ∷ cs) =
      let more = codes_with e cs in
      let whole = codes_with e (c ∷ cs) in
      let end = bare_end depth false 0 (c ∷ cs) in
      same_code e (λ x. cond (eqb x 60) (closed_by more (angle_end false more)) (if_any (up_to whole (bare_end depth false 0 whole)))) c refl refl
      ∙ cond-under if_part (eqb c 60)
      (ap (closed_by more) (angle_end-with false cs) ∙ closed_by-with e cs (angle_end false cs))
      (ap (λ o. if_any (up_to whole o)) (bare_end-with depth false 0 (c ∷ cs)) ∙ ap if_any (up_to-with e (c ∷ cs) end) ∙ if_any-with (up_to (c ∷ cs) end))

  -- ---- titles

  -- what closes a title is no ending
  module _ (close : ℕ) (return : eqb 13 close ≡ eqb 10 close) (both : eqb 257 close ≡ eqb 10 close) where
    title_end-with : (escaped start : Bool) (cs : List ℕ) → title_end close escaped start (codes_with e cs) ≡ if_codes (title_end close escaped start cs)
    title_end-with escaped start [] = refl
    title_end-with escaped start (c ∷ cs) =
        let more = codes_with e cs in
        let ends : Bool → ℕ → Bool = λ closes x. (closes || (eqb close 41 && eqb x 40)) && not escaped in
        let next : Bool → ℕ → Option (List ℕ) =
        λ closes x. cond (ends closes x) (cond closes (Some (code_with e c ∷ more)) None)
        (cond (ends_blank_line start x) None (title_end close (may_escape escaped x) (at_line_start start x) more)) in
        same_code e (λ x. next (eqb x close) x) c (ap (λ closes. next closes 13) return) (ap (λ closes. next closes 257) both)
        ∙ cond-under if_codes (ends (eqb c close) c) (cond-under if_codes (eqb c close) refl refl)
        (cond-under if_codes (ends_blank_line start c) refl (title_end-with (may_escape escaped c) (at_line_start start c) cs))

    title_until-some : (cs : List ℕ) → title_until (Some close) (codes_with e cs) ≡ if_part (title_until (Some close) cs)
    title_until-some cs =
        ap (closed_by (codes_with e cs)) (title_end-with false false cs) ∙ closed_by-with e cs (title_end close false false cs)

  title_until-with : (c : ℕ) (cs : List ℕ) → title_until (title_close c) (codes_with e cs) ≡ if_part (title_until (title_close c) cs)
  title_until-with c cs =
      let same : Option ℕ → Type 0 = λ o. title_until o (codes_with e cs) ≡ if_part (title_until o cs) in
      cond_both (eqb c 34 || eqb c 39) (Some c) (cond (eqb c 40) (Some 41) None) same
      (λ h. title_until-some c (quote_apart 13 c h refl refl) (quote_apart 257 c h refl refl) cs)
      (λ _. cond_both (eqb c 40) (Some 41) None same (λ _. title_until-some 41 refl refl cs) (λ _. refl))

  pub title_at-with : (cs : List ℕ) → title_at (codes_with e cs) ≡ if_part (title_at cs)
  title_at-with [] = refl
  title_at-with (c ∷ cs) = same_code e (λ x. title_until (title_close x) (codes_with e cs)) c refl refl ∙ title_until-with c cs
