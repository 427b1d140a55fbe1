-- HTML with another line ending in place of each LF ends with a paragraph where it does with LF.
use Rattle.std.proofs.Common.{◌≡◌, ℕ, suc, ◌+◌, ◌-◌, Bool, true, false, cond, eqb, ◌&&◌, List, [], ◌∷◌, ◌++◌, refl, sym, ap, ◌∙◌, arith, length, take, drop}
use Rattle.std.proofs.Common.{reverse, flat_map, append-nil, append_assoc, take-append-drop, length-append, take_at, drop_at}
use Rattle.laws_endings.proofs.Prelude.{begins_with, byte_with, bytes_eq, codes, ended_size, ending_bytes, ends_line, eqb-true, flat_map-append, LineEnding}
use Rattle.laws_endings.proofs.Prelude.{or_left, prefix_len, reverse-append, with_ending}
use Rattle.std.proofs.lemmas.List.{reverse-reverse, length-reverse, length-drop}
use Rattle.std.proofs.lemmas.Slice.Eq.{bytes_eq-Decides}
use Rattle.std.specs.Cmp.{both_ways}
use Rattle.markdown_options.specs.declared.line_ending.LineEnding.TheVariants.{CarriageReturnLineFeed, CarriageReturn, LineFeed}
use Rattle.definition_inline.specs.GfmAutolinkLiteral.{ends_with}
use Rattle.laws_endings.proofs.Bytes.{with-append}

-- ---- a text from its end back

one_more : (n : ℕ) → 1 + n ≡ suc n
one_more n = omega arith

turned : (n : ℕ) (text : List ℕ) → text ≡ reverse (drop n (reverse text)) ++ reverse (take n (reverse text))
turned n text =
    let back = reverse text in
    sym (reverse-reverse text) ∙ ap reverse (sym (take-append-drop n back)) ∙ reverse-append (take n back) (drop n back)

front_size : (n : ℕ) (text : List ℕ) → length (reverse (drop n (reverse text))) ≡ length text - n
front_size n text = length-reverse (drop n (reverse text)) ∙ length-drop n (reverse text) ∙ ap (λ m. m - n) (length-reverse text)

front_is : (n : ℕ) (text : List ℕ) → take (length text - n) text ≡ reverse (drop n (reverse text))
front_is n text =
    ap (take (length text - n)) (turned n text)
    ∙ take_at (reverse (drop n (reverse text))) (reverse (take n (reverse text))) (length text - n) (front_size n text)

end_is : (n : ℕ) (text : List ℕ) → drop (length text - n) text ≡ reverse (take n (reverse text))
end_is n text =
    ap (drop (length text - n)) (turned n text)
    ∙ drop_at (reverse (drop n (reverse text))) (reverse (take n (reverse text))) (length text - n) (front_size n text)

equal_back : (text other : List ℕ) → bytes_eq text (reverse other) ≡ bytes_eq (reverse text) other
equal_back text other =
    both_ways (bytes_eq text (reverse other)) (bytes_eq (reverse text) other)
    (λ h. (bytes_eq-Decides (reverse text) other).1 (ap reverse ((bytes_eq-Decides text (reverse other)).0 h) ∙ reverse-reverse other))
    (λ h. (bytes_eq-Decides text (reverse other)).1 (sym (reverse-reverse text) ∙ ap reverse ((bytes_eq-Decides (reverse text) other).0 h)))

-- ---- without the line endings at its end

-- the same from its end back
abbrev trimmed : List ℕ → List ℕ
trimmed back = drop (prefix_len ends_line back) back

abbrev pub unended : List ℕ → List ℕ
unended text = reverse (trimmed (reverse text))

unended_is : (text : List ℕ) → take (ended_size text) text ≡ unended text
unended_is text = front_is (prefix_len ends_line (reverse text)) text

unended_size : (text : List ℕ) → length (unended text) ≡ ended_size text
unended_size text = front_size (prefix_len ends_line (reverse text)) text

trimmed_one : (b : ℕ) (bs : List ℕ) → ends_line b ≡ true → trimmed (b ∷ bs) ≡ trimmed bs
trimmed_one b bs h =
    ap (λ ends. drop (cond ends (1 + prefix_len ends_line bs) 0) (b ∷ bs)) h ∙ ap (λ n. drop n (b ∷ bs)) (one_more (prefix_len ends_line bs))

trimmed_none : (b : ℕ) (bs : List ℕ) → ends_line b ≡ false → trimmed (b ∷ bs) ≡ b ∷ bs
trimmed_none b bs h = ap (λ ends. drop (cond ends (1 + prefix_len ends_line bs) 0) (b ∷ bs)) h

trimmed_ending : (ending : LineEnding) (bs : List ℕ) → trimmed (reverse (ending_bytes ending) ++ bs) ≡ trimmed bs
trimmed_ending CarriageReturnLineFeed bs = trimmed_one 10 (13 ∷ bs) refl ∙ trimmed_one 13 bs refl
trimmed_ending CarriageReturn bs = trimmed_one 13 bs refl
trimmed_ending LineFeed bs = trimmed_one 10 bs refl

-- ---- the end of a paragraph

abbrev pub end_of_paragraph : List ℕ
end_of_paragraph = codes "</p>"

-- it is that from the end back
ends_back : (text : List ℕ) → ends_with end_of_paragraph text ≡ begins_with (reverse end_of_paragraph) (reverse text)
ends_back text = ap (bytes_eq end_of_paragraph) (end_is 4 text) ∙ equal_back end_of_paragraph (take 4 (reverse text))

-- bytes that are those of no line ending
abbrev AreClear : List ℕ → Type 0
AreClear [] = true ≡ true
AreClear (b ∷ bs) = (eqb b 10 ≡ false) × ((eqb b 13 ≡ false) × AreClear bs)

begins_no : (b c : ℕ) (bs cs : List ℕ) → eqb b c ≡ false → begins_with (b ∷ bs) (c ∷ cs) ≡ false
begins_no b c bs cs h = ap (λ same. same && begins_with bs cs) h

module _ (e : LineEnding) where
  abbrev back_byte : ℕ → List ℕ
  back_byte b = cond (eqb b 10) (reverse (ending_bytes e)) (b ∷ [])

  -- the same from its end back
  abbrev back_with : List ℕ → List ℕ
  back_with bs = flat_map back_byte bs

  back_by : (b : ℕ) (feed : Bool) → reverse (cond feed (ending_bytes e) (b ∷ [])) ≡ cond feed (reverse (ending_bytes e)) (b ∷ [])
  back_by b true = refl
  back_by b false = refl

  reverse-with : (bs : List ℕ) → reverse (with_ending e bs) ≡ back_with (reverse bs)
  reverse-with [] = refl
  reverse-with (b ∷ bs) =
      reverse-append (byte_with e b) (with_ending e bs)
      ∙ ap (λ first. first ++ reverse (byte_with e b)) (reverse-with bs)
      ∙ ap (λ last. back_with (reverse bs) ++ last) (back_by b (eqb b 10) ∙ sym (append-nil (back_byte b)))
      ∙ sym (flat_map-append back_byte (reverse bs) (b ∷ []))
      ∙ ap back_with (sym (reverse-append (b ∷ []) bs))

  with-back : (bs : List ℕ) → reverse (back_with bs) ≡ with_ending e (reverse bs)
  with-back bs =
      ap (λ x. reverse (back_with x)) (sym (reverse-reverse bs)) ∙ ap reverse (sym (reverse-with (reverse bs))) ∙ reverse-reverse (with_ending e (reverse bs))

  -- ---- without the line endings at its end

  trimmed_other : (b : ℕ) (bs : List ℕ) → eqb b 10 ≡ false → trimmed (back_with bs) ≡ back_with (trimmed bs) → (ends : Bool) → ends_line b ≡ ends
      → trimmed (b ∷ back_with bs) ≡ back_with (trimmed (b ∷ bs))
  trimmed_other b bs h same true k = trimmed_one b (back_with bs) k ∙ same ∙ ap back_with (sym (trimmed_one b bs k))
  trimmed_other b bs h same false k =
      trimmed_none b (back_with bs) k
      ∙ sym (ap (λ feed. cond feed (reverse (ending_bytes e)) (b ∷ []) ++ back_with bs) h)
      ∙ ap back_with (sym (trimmed_none b bs k))

  trimmed_by : (b : ℕ) (bs : List ℕ) (feed : Bool) → eqb b 10 ≡ feed → trimmed (back_with bs) ≡ back_with (trimmed bs)
      → trimmed (cond feed (reverse (ending_bytes e)) (b ∷ []) ++ back_with bs) ≡ back_with (trimmed (b ∷ bs))
  trimmed_by b bs true h same =
      trimmed_ending e (back_with bs) ∙ same ∙ ap back_with (sym (trimmed_one b bs (or_left (eqb b 10) (eqb b 13) h)))
  trimmed_by b bs false h same = trimmed_other b bs h same (ends_line b) refl

  trimmed-with : (bs : List ℕ) → trimmed (back_with bs) ≡ back_with (trimmed bs)
  trimmed-with [] = refl
  trimmed-with (b ∷ bs) = trimmed_by b bs (eqb b 10) refl (trimmed-with bs)

  unended-with : (text : List ℕ) → unended (with_ending e text) ≡ with_ending e (unended text)
  unended-with text =
      ap (λ back. reverse (trimmed back)) (reverse-with text) ∙ ap reverse (trimmed-with (reverse text)) ∙ with-back (trimmed (reverse text))

  -- ---- whether a paragraph ends it

  begins_ending : (ending : LineEnding) (b : ℕ) (bs cs : List ℕ) → eqb b 10 ≡ false → eqb b 13 ≡ false
      → begins_with (b ∷ bs) (reverse (ending_bytes ending) ++ cs) ≡ false
  begins_ending CarriageReturnLineFeed b bs cs h k = begins_no b 10 bs (13 ∷ cs) h
  begins_ending CarriageReturn b bs cs h k = begins_no b 13 bs cs k
  begins_ending LineFeed b bs cs h k = begins_no b 10 bs cs h

  begins_by : (b c : ℕ) (bs cs : List ℕ) (feed : Bool) → eqb c 10 ≡ feed → eqb b 10 ≡ false → eqb b 13 ≡ false
      → begins_with bs (back_with cs) ≡ begins_with bs cs
      → begins_with (b ∷ bs) (cond feed (reverse (ending_bytes e)) (c ∷ []) ++ back_with cs) ≡ begins_with (b ∷ bs) (c ∷ cs)
  begins_by b c bs cs true h k l same = begins_ending e b bs (back_with cs) k l ∙ sym (begins_no b c bs cs (ap (eqb b) (eqb-true c 10 h) ∙ k))
  begins_by b c bs cs false h k l same = ap (λ more. eqb b c && more) same

  begins-back : (bs cs : List ℕ) → AreClear bs → begins_with bs (back_with cs) ≡ begins_with bs cs
  begins-back [] cs h = refl
  begins-back (b ∷ bs) [] h = refl
  begins-back (b ∷ bs) (c ∷ cs) h = begins_by b c bs cs (eqb c 10) refl h.0 h.1.0 (begins-back bs cs h.1.1)

  ends-with : (text : List ℕ) → ends_with end_of_paragraph (with_ending e text) ≡ ends_with end_of_paragraph text
  ends-with text =
      ends_back (with_ending e text)
      ∙ ap (begins_with (reverse end_of_paragraph)) (reverse-with text)
      ∙ begins-back (reverse end_of_paragraph) (reverse text) (refl, (refl, (refl, (refl, (refl, (refl, (refl, (refl, refl))))))))
      ∙ sym (ends_back text)

  abbrev pub ends_in_paragraph : List ℕ → Bool
  ends_in_paragraph html = ends_with end_of_paragraph (take (ended_size html) html)

  pub paragraph-with : (html : List ℕ) → ends_in_paragraph (with_ending e html) ≡ ends_in_paragraph html
  paragraph-with html =
      ap (ends_with end_of_paragraph) (unended_is (with_ending e html) ∙ unended-with html) ∙ ends-with (unended html)
      ∙ ap (ends_with end_of_paragraph) (sym (unended_is html))

  -- ---- where it ends

  -- a text before the end of a paragraph and what follows that
  cut : (html text after : List ℕ) (n : ℕ) → html ≡ (text ++ end_of_paragraph) ++ after → n ≡ length text
      → (take n html ≡ text) × (drop n html ≡ end_of_paragraph ++ after)
  cut html text after n same size =
      let whole = same ∙ append_assoc text end_of_paragraph after in (
        ap (take n) whole ∙ take_at text (end_of_paragraph ++ after) n (sym size),
        ap (drop n) whole ∙ drop_at text (end_of_paragraph ++ after) n (sym size),
      )

  before_four : (text : List ℕ) (n : ℕ) → length (text ++ end_of_paragraph) ≡ n → n - 4 ≡ length text
  before_four text n h = omega (arith, h, length-append text end_of_paragraph)

  -- a text that a paragraph ends is cut before that end
  pub cut-with : (html : List ℕ) → ends_in_paragraph html ≡ true
      → (take (ended_size (with_ending e html) - 4) (with_ending e html) ≡ with_ending e (take (ended_size html - 4) html))
      × (drop (ended_size (with_ending e html) - 4) (with_ending e html) ≡ with_ending e (drop (ended_size html - 4) html))
  cut-with html h =
      let other = with_ending e html in
      let front = unended html in
      let k = length front - 4 in
      let text = take k front in
      let after = reverse (take (prefix_len ends_line (reverse html)) (reverse html)) in
      let is : end_of_paragraph ≡ drop k front =
      (bytes_eq-Decides end_of_paragraph (drop k front)).0 (ap (ends_with end_of_paragraph) (sym (unended_is html)) ∙ h) in
      let front_same : front ≡ text ++ end_of_paragraph = sym (take-append-drop k front) ∙ ap (λ end. text ++ end) (sym is) in
      let whole : html ≡ (text ++ end_of_paragraph) ++ after =
      turned (prefix_len ends_line (reverse html)) html ∙ ap (λ x. x ++ after) front_same in
      let size = before_four text (ended_size html) (ap length (sym front_same) ∙ unended_size html) in
      let other_text = with_ending e text in
      let other_front : unended other ≡ other_text ++ end_of_paragraph =
      unended-with html ∙ ap (with_ending e) front_same ∙ with-append e text end_of_paragraph in
      let other_whole : other ≡ (other_text ++ end_of_paragraph) ++ with_ending e after =
      ap (with_ending e) whole ∙ with-append e (text ++ end_of_paragraph) after ∙ ap (λ x. x ++ with_ending e after) (with-append e text end_of_paragraph) in
      let other_size = before_four other_text (ended_size other) (ap length (sym other_front) ∙ unended_size other) in
      let one = cut html text after (ended_size html - 4) whole size in
      let two = cut other other_text (with_ending e after) (ended_size other - 4) other_whole other_size in (
        two.0 ∙ sym (ap (with_ending e) one.0),
        two.1 ∙ sym (ap (with_ending e) one.1 ∙ with-append e end_of_paragraph after),
      )
