-- What follows the `]` of a link or an image has its form there.
use Rattle.std.proofs.Common.{◌≡◌, ℕ, ◌-◌, Bool, true, false, cond, ◌&&◌, List, [], ◌∷◌, ◌++◌, Option, None, Some}
use Rattle.std.proofs.Common.{length, take, drop, refl, sym, ap, ◌∙◌, subst, arith, append_assoc}
use Rattle.parse_written.proofs.Prelude.{and_parts, AreCodes, begins_with, codes, codes_of, cond_both, eqb-true, InlineCode, InlineContext, is_eol, is_white}
use Rattle.parse_written.proofs.Prelude.{length-append, LinkTail, Part, part, prefix_len, take-append-drop, text_before, true≢false, up_to, WhereSome, ◌==◌}
use Rattle.definition_text.specs.Content.{closed_by, may_escape, at_line_start}
use Rattle.definition_inline.specs.Destination.{ends_angle, angle_end, open_after, is_too_deep, ends_bare, bare_end, unless_empty, if_any, destination_at}
use Rattle.definition_inline.specs.Inline.{Reference}
use Rattle.definition_inline.specs.Label.{ends_label, label_end, is_label, if_label, label_at}
use Rattle.definition_inline.specs.LabelEnd.{link_tail, is_label_text, by_text, by_label, by_resource}
use Rattle.definition_inline.specs.Parts.{after_part}
use Rattle.definition_inline.specs.Resource.{LinkResource, resource_end, opens_title, after_destination, resource_inside, resource_at}
use Rattle.definition_inline.specs.Space.{after_spaces, after_ending, after_white, begins_with_space}
use Rattle.definition_inline.specs.Title.{ends_title, ends_blank_line, title_end, title_close, title_until, title_at}
use Rattle.parse_written.specs.Laws.{TailLaw}
use Rattle.parse_written.specs.Tails.{IsDestination, InBrackets, Bare, IsTitle, EndsResource, IsInside, Empty, Leading, IsResource, HasTail, AsResource, AsLabel}
use Rattle.parse_written.specs.Tails.{AsText}
use Rattle.parse_written.proofs.Forms.{front_codes, text_of_parts}

-- ---- a text up to the code that closes it

record Closes (close : ℕ) (content rest : List ℕ) : Type 0 where
  front : List ℕ
  parts : content ≡ front ++ rest
  first : rest ≡ close ∷ drop 1 rest

closes_later : (close c : ℕ) (cs : List ℕ) (o : Option (List ℕ)) → WhereSome (Closes close cs) o → WhereSome (Closes close (c ∷ cs)) o
closes_later close c cs None p = tt
closes_later close c cs (Some rest) p = record { front = c ∷ p.front; parts = ap (λ xs. c ∷ xs) p.parts; first = p.first }

closes_here : (close c : ℕ) (cs : List ℕ) → WhereSome (Closes close (c ∷ cs)) (cond (c == close) (Some (c ∷ cs)) None)
closes_here close c cs =
    cond_both (c == close) (Some (c ∷ cs)) None (WhereSome (Closes close (c ∷ cs)))
    (λ e. record { front = []; parts = refl; first = ap (λ x. x ∷ cs) (eqb-true c close e) }) (λ _. tt)

angle_closes : (escaped : Bool) (content : List ℕ) → WhereSome (Closes 62 content) (angle_end escaped content)
angle_closes escaped [] = tt
angle_closes escaped (c ∷ cs) =
    let later = angle_end (may_escape escaped c) cs in
    cond_both (ends_angle escaped c) (cond (c == 62) (Some (c ∷ cs)) None) later (WhereSome (Closes 62 (c ∷ cs))) (λ _. closes_here 62 c cs)
    (λ _. closes_later 62 c cs later (angle_closes (may_escape escaped c) cs))

title_closes : (close : ℕ) (escaped start : Bool) (content : List ℕ) → WhereSome (Closes close content) (title_end close escaped start content)
title_closes close escaped start [] = tt
title_closes close escaped start (c ∷ cs) =
    let later = title_end close (may_escape escaped c) (at_line_start start c) cs in
    cond_both (ends_title close escaped c) (cond (c == close) (Some (c ∷ cs)) None) (cond (ends_blank_line start c) None later)
    (WhereSome (Closes close (c ∷ cs))) (λ _. closes_here close c cs)
    (λ _. cond_both (ends_blank_line start c) None later (WhereSome (Closes close (c ∷ cs))) (λ _. tt)
    (λ _. closes_later close c cs later (title_closes close (may_escape escaped c) (at_line_start start c) cs)))

label_closes : (escaped : Bool) (content : List ℕ) → WhereSome (Closes 93 content) (label_end escaped content)
label_closes escaped [] = tt
label_closes escaped (c ∷ cs) =
    let later = label_end (may_escape escaped c) cs in
    cond_both (ends_label escaped c) (cond (c == 93) (Some (c ∷ cs)) None) later (WhereSome (Closes 93 (c ∷ cs))) (λ _. closes_here 93 c cs)
    (λ _. closes_later 93 c cs later (label_closes (may_escape escaped c) cs))

-- a text, and what closes it
abbrev IsClosed : ℕ → List ℕ → Part → Type 0
IsClosed close content p = content ≡ p.text ++ close ∷ p.rest

closed_part : (close : ℕ) (content : List ℕ) (o : Option (List ℕ)) → WhereSome (Closes close content) o → WhereSome (IsClosed close content) (closed_by content o)
closed_part close content None p = tt
closed_part close content (Some rest) p =
    p.parts ∙ ap (λ xs. xs ++ rest) (sym (text_of_parts content p.front rest p.parts)) ∙ ap (λ xs. text_before content rest ++ xs) p.first

-- ---- destinations and titles

record IsFront (content rest : List ℕ) : Type 0 where
  front : List ℕ
  parts : content ≡ front ++ rest

bare_front : (depth : Option ℕ) (escaped : Bool) (opened : ℕ) (content : List ℕ) → WhereSome (IsFront content) (bare_end depth escaped opened content)
bare_front depth escaped opened [] =
    cond_both (opened == 0) (Some []) None (WhereSome (IsFront [])) (λ _. record { front = []; parts = refl }) (λ _. tt)
bare_front depth escaped opened (c ∷ cs) =
    let now = open_after escaped opened c in
    let later = bare_end depth (may_escape escaped c) now cs in
    cond_both (ends_bare escaped opened c) (cond (opened == 0) (Some (c ∷ cs)) None) (cond (is_too_deep depth now) None later)
    (WhereSome (IsFront (c ∷ cs)))
    (λ _. cond_both (opened == 0) (Some (c ∷ cs)) None (WhereSome (IsFront (c ∷ cs))) (λ _. record { front = []; parts = refl }) (λ _. tt))
    (λ _. cond_both (is_too_deep depth now) None later (WhereSome (IsFront (c ∷ cs))) (λ _. tt)
    (λ _. more later (bare_front depth (may_escape escaped c) now cs)))
  where
    more : (o : Option (List ℕ)) → WhereSome (IsFront cs) o → WhereSome (IsFront (c ∷ cs)) o
    more None p = tt
    more (Some rest) p = record { front = c ∷ p.front; parts = ap (λ xs. c ∷ xs) p.parts }

any_part : (P : Part → Type 0) (o : Option Part) → WhereSome P o → WhereSome P (if_any o)
any_part P None p = tt
any_part P (Some read) p = unless read.text
  where
    unless : (text : List ℕ) → WhereSome P (unless_empty text read)
    unless [] = tt
    unless (c ∷ cs) = p

up_to_part : (content : List ℕ) (o : Option (List ℕ)) → WhereSome (IsFront content) o
    → WhereSome (λ (p : Part). content ≡ p.text ++ p.rest) (up_to content o)
up_to_part content None p = tt
up_to_part content (Some rest) p = p.parts ∙ ap (λ xs. xs ++ rest) (sym (text_of_parts content p.front rest p.parts))

destination_form : (depth : Option ℕ) (content : List ℕ) → WhereSome (λ (p : Part). IsDestination p.text p.rest content) (destination_at depth content)
destination_form depth [] = tt
destination_form depth (c ∷ cs) =
    let angle = closed_by cs (angle_end false cs) in
    let bare = up_to (c ∷ cs) (bare_end depth false 0 (c ∷ cs)) in
    cond_both (c == 60) angle (if_any bare) (WhereSome (λ (p : Part). IsDestination p.text p.rest (c ∷ cs)))
    (λ e. in_brackets e angle (closed_part 62 cs (angle_end false cs) (angle_closes false cs)))
    (λ e. any_part (λ (p : Part). IsDestination p.text p.rest (c ∷ cs)) bare
    (is_bare e bare (up_to_part (c ∷ cs) (bare_end depth false 0 (c ∷ cs)) (bare_front depth false 0 (c ∷ cs)))))
  where
    in_brackets : (c == 60) ≡ true → (o : Option Part) → WhereSome (IsClosed 62 cs) o → WhereSome (λ (p : Part). IsDestination p.text p.rest (c ∷ cs)) o
    in_brackets e None p = tt
    in_brackets e (Some read) p =
        subst (IsDestination read.text read.rest) (sym (ap (λ x. x ∷ cs) (eqb-true c 60 e) ∙ ap (λ xs. 60 ∷ xs) p)) InBrackets

    is_bare : (c == 60) ≡ false → (o : Option Part) → WhereSome (λ (p : Part). c ∷ cs ≡ p.text ++ p.rest) o
        → WhereSome (λ (p : Part). IsDestination p.text p.rest (c ∷ cs)) o
    is_bare e None p = tt
    is_bare e (Some read) p = Bare c cs e p

title_form : (content : List ℕ) → WhereSome (λ (p : Part). IsTitle p.text p.rest content) (title_at content)
title_form [] = tt
title_form (c ∷ cs) = until (title_close c) refl
  where
    titled : (close : ℕ) → title_close c ≡ Some close → (o : Option Part) → WhereSome (IsClosed close cs) o
        → WhereSome (λ (p : Part). IsTitle p.text p.rest (c ∷ cs)) o
    titled close e None p = tt
    titled close e (Some read) p = record { opening = c; closing = close; fits = e; parts = ap (λ xs. c ∷ xs) p }

    until : (o : Option ℕ) → title_close c ≡ o → WhereSome (λ (p : Part). IsTitle p.text p.rest (c ∷ cs)) (title_until o cs)
    until None e = tt
    until (Some close) e =
        titled close e (closed_by cs (title_end close false false cs))
        (closed_part close cs (title_end close false false cs) (title_closes close false false cs))

-- ---- resources

record EndsAs (destination : List ℕ) (title : Option (List ℕ)) (content : List ℕ) (r : LinkResource) : Type 0 where
  leads : r.destination ≡ destination
  titled : r.title ≡ title
  end : content ≡ 41 ∷ r.rest

end_form : (destination : List ℕ) (title : Option (List ℕ)) (content : List ℕ)
    → WhereSome (EndsAs destination title content) (resource_end destination title content)
end_form destination title [] = tt
end_form destination title (c ∷ cs) =
    let found : LinkResource = record { destination = destination; title = title; rest = cs } in
    cond_both (c == 41) (Some found) None (WhereSome (EndsAs destination title (c ∷ cs)))
    (λ e. record { leads = refl; titled = refl; end = ap (λ x. x ∷ cs) (eqb-true c 41 e) }) (λ _. tt)

-- what follows a destination
abbrev Follows : Part → LinkResource → Type 0
Follows d r = (r.destination ≡ d.text) × EndsResource r.title d.rest r.rest

untitled : (d : Part) (o : Option LinkResource) → WhereSome (EndsAs d.text None (after_white d.rest)) o → WhereSome (Follows d) o
untitled d None p = tt
untitled d (Some r) p = (p.leads, subst (λ t. EndsResource t d.rest r.rest) (sym p.titled) p.end)

titled_end : (d title : Part) → IsTitle title.text title.rest (after_white d.rest) → (o : Option LinkResource)
    → WhereSome (EndsAs d.text (Some title.text) (after_white title.rest)) o → WhereSome (Follows d) o
titled_end d title is None p = tt
titled_end d title is (Some r) p = (p.leads, subst (λ t. EndsResource t d.rest r.rest) (sym p.titled) (title.rest, is, p.end))

follows_form : (d : Part) → WhereSome (Follows d) (after_destination d)
follows_form d =
    let next = after_white d.rest in
    cond_both (begins_with_space d.rest && opens_title next) _ (resource_end d.text None next) (WhereSome (Follows d))
    (λ _. after (title_at next) (title_form next)) (λ _. untitled d (resource_end d.text None next) (end_form d.text None next))
  where
    after : (o : Option Part) → WhereSome (λ (p : Part). IsTitle p.text p.rest (after_white d.rest)) o
        → WhereSome (Follows d) (after_part o (λ (title : Part). resource_end d.text (Some title.text) (after_white title.rest)))
    after None p = tt
    after (Some title) p =
        titled_end d title p (resource_end d.text (Some title.text) (after_white title.rest)) (end_form d.text (Some title.text) (after_white title.rest))

abbrev Inside : List ℕ → LinkResource → Type 0
Inside content r = IsInside r.destination r.title content r.rest

inside_form : (content : List ℕ) → WhereSome (Inside content) (resource_inside content)
inside_form [] = tt
inside_form (c ∷ cs) =
    cond_both (c == 41) (resource_end [] None (c ∷ cs)) (after_part (destination_at (Some 32) (c ∷ cs)) after_destination) (WhereSome (Inside (c ∷ cs)))
    (λ _. empty (resource_end [] None (c ∷ cs)) (end_form [] None (c ∷ cs)))
    (λ e. leading e (destination_at (Some 32) (c ∷ cs)) (destination_form (Some 32) (c ∷ cs)))
  where
    empty : (o : Option LinkResource) → WhereSome (EndsAs [] None (c ∷ cs)) o → WhereSome (Inside (c ∷ cs)) o
    empty None p = tt
    empty (Some r) p =
        subst (λ xs. IsInside r.destination r.title xs r.rest) (sym p.end)
        (subst (λ t. IsInside r.destination t (41 ∷ r.rest) r.rest) (sym p.titled)
        (subst (λ d. IsInside d None (41 ∷ r.rest) r.rest) (sym p.leads) (Empty r.rest)))

    follow : (c == 41) ≡ false → (d : Part) → IsDestination d.text d.rest (c ∷ cs) → (o : Option LinkResource) → WhereSome (Follows d) o
        → WhereSome (Inside (c ∷ cs)) o
    follow e d is None p = tt
    follow e d is (Some r) p =
        Leading r.destination r.title c cs d.rest r.rest e (subst (λ text. IsDestination text d.rest (c ∷ cs)) (sym p.0) is) p.1

    leading : (c == 41) ≡ false → (o : Option Part) → WhereSome (λ (p : Part). IsDestination p.text p.rest (c ∷ cs)) o
        → WhereSome (Inside (c ∷ cs)) (after_part o after_destination)
    leading e None p = tt
    leading e (Some d) p = follow e d p (after_destination d) (follows_form d)

resource_form : (content : List ℕ) → WhereSome (λ (r : LinkResource). IsResource r content) (resource_at content)
resource_form [] = tt
resource_form (c ∷ cs) =
    cond_both (c == 40) (resource_inside (after_white cs)) None (WhereSome (λ (r : LinkResource). IsResource r (c ∷ cs)))
    (λ e. opened e (resource_inside (after_white cs)) (inside_form (after_white cs))) (λ _. tt)
  where
    opened : (c == 40) ≡ true → (o : Option LinkResource) → WhereSome (Inside (after_white cs)) o → WhereSome (λ (r : LinkResource). IsResource r (c ∷ cs)) o
    opened e None p = tt
    opened e (Some r) p = record { inside = cs; opening = ap (λ x. x ∷ cs) (eqb-true c 40 e); parts = p }

label_form : (content : List ℕ) → WhereSome (λ (p : Part). content ≡ 91 ∷ (p.text ++ 93 ∷ p.rest)) (label_at content)
label_form [] = tt
label_form (c ∷ cs) =
    let found = closed_by cs (label_end false cs) in
    cond_both (c == 91) (if_label found) None (WhereSome (λ (p : Part). c ∷ cs ≡ 91 ∷ (p.text ++ 93 ∷ p.rest)))
    (λ e. opened e found (closed_part 93 cs (label_end false cs) (label_closes false cs))) (λ _. tt)
  where
    opened : (c == 91) ≡ true → (o : Option Part) → WhereSome (IsClosed 93 cs) o
        → WhereSome (λ (p : Part). c ∷ cs ≡ 91 ∷ (p.text ++ 93 ∷ p.rest)) (if_label o)
    opened e None p = tt
    opened e (Some read) p =
        cond_both (is_label read.text) (Some read) None (WhereSome (λ (p : Part). c ∷ cs ≡ 91 ∷ (p.text ++ 93 ∷ p.rest)))
        (λ _. ap (λ x. x ∷ cs) (eqb-true c 91 e) ∙ ap (λ xs. 91 ∷ xs) p) (λ _. tt)

-- ---- what follows a resource is the rest of the content

white_front : (content : List ℕ) → IsFront content (after_white content)
white_front content =
    let n = prefix_len is_white content in ending (take n content) (after_spaces content) (sym (take-append-drop n content))
  where
    ending : (front rest : List ℕ) → content ≡ front ++ rest → IsFront content (after_ending rest)
    ending front [] is = record { front = front; parts = is }
    ending front (c ∷ cs) is =
        let n = prefix_len is_white cs in
        cond_both (is_eol c) (after_spaces cs) (c ∷ cs) (IsFront content)
        (λ _. record {
          front = front ++ c ∷ take n cs;
          parts = is ∙ ap (λ xs. front ++ c ∷ xs) (sym (take-append-drop n cs)) ∙ sym (append_assoc front (c ∷ take n cs) (drop n cs));
        })
        (λ _. record { front = front; parts = is })

front_more : (content middle rest : List ℕ) → IsFront content middle → IsFront middle rest → IsFront content rest
front_more content middle rest p q =
    record { front = p.front ++ q.front; parts = p.parts ∙ ap (λ xs. p.front ++ xs) q.parts ∙ sym (append_assoc p.front q.front rest) }

code_front : (code : ℕ) (content rest : List ℕ) → content ≡ code ∷ rest → IsFront content rest
code_front code content rest is = record { front = code ∷ []; parts = is }

destination_front : (text rest content : List ℕ) → IsDestination text rest content → IsFront content rest
destination_front text rest _ InBrackets = record { front = 60 ∷ (text ++ 62 ∷ []); parts = ap (λ xs. 60 ∷ xs) (sym (append_assoc text (62 ∷ []) rest)) }
destination_front text rest _ (Bare c cs other is) = record { front = text; parts = is }

title_front : (text rest content : List ℕ) → IsTitle text rest content → IsFront content rest
title_front text rest content is = record {
  front = is.opening ∷ (text ++ is.closing ∷ []);
  parts = is.parts ∙ ap (λ xs. is.opening ∷ xs) (sym (append_assoc text (is.closing ∷ []) rest));
}

end_front : (title : Option (List ℕ)) (content rest : List ℕ) → EndsResource title content rest → IsFront content rest
end_front None content rest is = front_more content (after_white content) rest (white_front content) (code_front 41 (after_white content) rest is)
end_front (Some title) content rest (after, is, end) =
    front_more content (after_white content) rest (white_front content)
    (front_more (after_white content) after rest (title_front title after (after_white content) is)
    (front_more after (after_white after) rest (white_front after) (code_front 41 (after_white after) rest end)))

inside_front : (destination : List ℕ) (title : Option (List ℕ)) (content rest : List ℕ) → IsInside destination title content rest → IsFront content rest
inside_front _ _ _ _ (Empty rest) = code_front 41 (41 ∷ rest) rest refl
inside_front _ _ _ _ (Leading destination title c cs after rest other is end) =
    front_more (c ∷ cs) after rest (destination_front destination after (c ∷ cs) is) (end_front title after rest end)

resource_front : (r : LinkResource) (content : List ℕ) → IsResource r content → IsFront content r.rest
resource_front r content is =
    front_more content is.inside r.rest (code_front 40 content is.inside is.opening)
    (front_more is.inside (after_white is.inside) r.rest (white_front is.inside)
    (inside_front r.destination r.title (after_white is.inside) r.rest is.parts))

-- the place of what is left, after the codes before it
left_at : (from : List InlineCode) (rest : List ℕ) → IsFront (codes_of from) rest → codes_of (drop (length (codes_of from) - length rest) from) ≡ rest
left_at from rest p =
    let size : length (codes_of from) - length rest ≡ length p.front = omega (arith, ap length p.parts, length-append p.front rest) in
    ap (λ n. codes_of (drop n from)) size ∙ (front_codes p.front rest from p.parts).1

-- ---- tails

module _ (context : InlineContext) (text : List ℕ) (from : List InlineCode) where
  abbrev Tails : Option LinkTail → Type 0
  Tails o = WhereSome (λ (tail : LinkTail). HasTail text tail.target from (drop tail.size from)) o

  brackets : (test : Bool) → begins_with (codes "[]") (codes_of from) ≡ test
      → AreCodes (cond test (codes "[]") []) from (drop (cond test 2 0) from)
  brackets true e = two from e
    where
      two : (xs : List InlineCode) → begins_with (codes "[]") (codes_of xs) ≡ true → AreCodes (codes "[]") xs (drop 2 xs)
      two [] e = absurd (true≢false (sym e))
      two (c ∷ []) e = absurd (true≢false (sym (and_parts (91 == c.code) false e).1))
      two (c ∷ d ∷ cs) e =
          let first = and_parts (91 == c.code) _ e in
          let second = and_parts (93 == d.code) _ first.1 in
          (sym (eqb-true 91 c.code first.0), (sym (eqb-true 93 d.code second.0), refl))
  brackets false e = refl

  text_tail : resource_at (codes_of from) ≡ None → label_at (codes_of from) ≡ None → Tails (by_text context.is_defined text (codes_of from))
  text_tail no_resource no_label =
      let test = begins_with (codes "[]") (codes_of from) in
      cond_both (is_label_text text && context.is_defined text) (Some (link_tail (Reference text) (cond test 2 0))) None Tails
      (λ _. AsText from (drop (cond test 2 0) from) no_resource no_label (brackets test refl)) (λ _. tt)

  label_tail : resource_at (codes_of from) ≡ None → (o : Option Part) → label_at (codes_of from) ≡ o
      → WhereSome (λ (p : Part). codes_of from ≡ 91 ∷ (p.text ++ 93 ∷ p.rest)) o → Tails (by_label context.is_defined text (codes_of from) o)
  label_tail no_resource None e p = text_tail no_resource e
  label_tail no_resource (Some label) e p =
      let n = length (codes_of from) - length label.rest in
      let front : IsFront (codes_of from) label.rest = record {
        front = 91 ∷ (label.text ++ 93 ∷ []);
        parts = p ∙ ap (λ xs. 91 ∷ xs) (sym (append_assoc label.text (93 ∷ []) label.rest));
      } in
      let left = left_at from label.rest front in
      cond_both (context.is_defined label.text) (Some (link_tail (Reference label.text) n)) None Tails
      (λ _. AsLabel label.text from (drop n from) no_resource (e ∙ ap (λ rest. Some (part label.text rest)) (sym left))
      (p ∙ ap (λ rest. 91 ∷ (label.text ++ 93 ∷ rest)) (sym left)))
      (λ _. tt)

  resource_tail : (o : Option LinkResource) → resource_at (codes_of from) ≡ o → WhereSome (λ (r : LinkResource). IsResource r (codes_of from)) o
      → Tails (by_resource context.is_defined text (codes_of from) o)
  resource_tail None e p = label_tail e (label_at (codes_of from)) refl (label_form (codes_of from))
  resource_tail (Some r) e p =
      AsResource r from (drop (length (codes_of from) - length r.rest) from) e p (left_at from r.rest (resource_front r (codes_of from) p))

pub tail_law : TailLaw
tail_law context target inside from to ends =
    let text = text_before (codes_of inside) (codes_of from) in
    let Found : Option LinkTail → Type 0 = Tails context text ends.rest in
    let tail : HasTail text target ends.rest (drop ends.size ends.rest) =
    subst Found ends.tail (resource_tail context text ends.rest (resource_at (codes_of ends.rest)) refl (resource_form (codes_of ends.rest))) in
    (ends.rest, ends.bracket, subst (λ x. HasTail text target ends.rest x) (sym ends.after) tail)
