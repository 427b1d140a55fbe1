-- Codes that stand for themselves in a page, and the texts that are cut out of them.
use Rattle.std.proofs.Common.{◌≡◌, ℕ, suc, ◌+◌, ◌-◌, Bool, true, false, cond, eqb, ◌||◌, List, [], ◌∷◌, ◌++◌, Option, None, Some, refl, sym, ap, ◌∙◌, subst}
use Rattle.std.proofs.Common.{arith, map, length, take, drop, append_assoc, take-append-drop, length-append, take_at}
use Rattle.laws_endings.proofs.Prelude.{after_all, after_ending, after_spaces, after_white, and_parts, angle_end, at_line_start, bare_end, begins_with}
use Rattle.laws_endings.proofs.Prelude.{begins_with_space, both_ways, closed_by, code_byte, code_space, cond_both, Definition, definition_at}
use Rattle.laws_endings.proofs.Prelude.{definition_before, definition_with_title, destination_at, ends_angle, ends_bare, ends_blank_line, ends_label, eqb-true}
use Rattle.laws_endings.proofs.Prelude.{false_from_ne_true, if_any, if_label, is_eol, is_label, is_tab_column, is_too_deep, label_at, label_end, may_escape}
use Rattle.laws_endings.proofs.Prelude.{next_line, open_after, or_definition_without_title, or_from, or_parts, Part, prefix_len, text_before, title_at}
use Rattle.laws_endings.proofs.Prelude.{title_close, title_end, title_until, unless_empty, up_to, with_colon, with_destination, with_label, with_title}
use Rattle.definition_inline.specs.Title.{ends_title}
use Rattle.definition_inline.specs.CodeText.{is_padded, code_text}
use Rattle.laws_endings.proofs.Each.{Each, each-append, each-take, each-drop, WhereSome}

-- a code that begins no character reference and isn't that of CR LF
abbrev pub Single : ℕ → Type 0
Single c = (eqb c 38 ≡ false) × (eqb c 257 ≡ false)

-- such a code that isn't that of a line ending
abbrev pub Plain : ℕ → Type 0
Plain c = Single c × (is_eol c ≡ false)

-- the byte of such a code, where a column that is left of a tab is a space
pub space_single : (c : ℕ) → Single c → Single (code_byte c)
space_single c p = cond_both (is_tab_column c) 32 c Single (λ _. (refl, refl)) (λ _. p)

pub space_plain : (c : ℕ) → Plain c → Plain (code_byte c)
space_plain c p = cond_both (is_tab_column c) 32 c Plain (λ _. ((refl, refl), refl)) (λ _. p)

abbrev pub IsNoEnding : ℕ → Type 0
IsNoEnding c = is_eol c ≡ false

pub each_plain : (cs : List ℕ) → Each Single cs → Each IsNoEnding cs → Each Plain cs
each_plain [] p q = tt
each_plain (c ∷ cs) p q = ((p.0, q.0), each_plain cs p.1 q.1)

-- what passes a test that no ending passes is none
pub no_ending_by : (test : ℕ → Bool) (c : ℕ) → test 10 ≡ false → test 13 ≡ false → test 257 ≡ false → test c ≡ true → is_eol c ≡ false
no_ending_by test c p q r h =
    let apart : (b : ℕ) → test b ≡ false → eqb c b ≡ false =
    λ b no. false_from_ne_true (eqb c b) (λ is. both_ways (test c) (ap test (eqb-true c b is) ∙ no) h) in
    or_from (eqb c 10 || eqb c 13) (eqb c 257) (or_from (eqb c 10) (eqb c 13) (apart 10 p) (apart 13 q)) (apart 257 r)

-- the same of one byte that is plain
pub plain_byte : (c b : ℕ) → Plain b → eqb c b ≡ true → Plain c
plain_byte c b p is = subst Plain (sym (eqb-true c b is)) p

passed_by : (test : ℕ → Bool) (P : ℕ → Type 0) (c : ℕ) (cs : List ℕ) → ((x : ℕ) → test x ≡ true → P x) → Each P (take (prefix_len test cs) cs)
    → (passes : Bool) → test c ≡ passes → Each P (take (cond passes (1 + prefix_len test cs) 0) (c ∷ cs))
passed_by test P c cs f p true h =
    let more : suc (prefix_len test cs) ≡ 1 + prefix_len test cs = omega arith in
    subst (λ n. Each P (take n (c ∷ cs))) more (f c h, p)
passed_by test P c cs f p false h = tt

-- the codes at the front that pass a test
pub all_passed : (test : ℕ → Bool) (P : ℕ → Type 0) (cs : List ℕ) → ((x : ℕ) → test x ≡ true → P x) → Each P (take (prefix_len test cs) cs)
all_passed test P [] f = tt
all_passed test P (c ∷ cs) f = passed_by test P c cs f (all_passed test P cs f) (test c) refl

-- ---- a text without line endings before a rest

pub record Apart (content rest : List ℕ) : Type 0 where
  pub front : List ℕ
  pub same : content ≡ front ++ rest
  pub clear : Each IsNoEnding front

apart_here : (content : List ℕ) → Apart content content
apart_here content = record { front = []; same = refl; clear = tt }

apart_more : (c : ℕ) (content rest : List ℕ) → is_eol c ≡ false → Apart content rest → Apart (c ∷ content) rest
apart_more c content rest h a = record { front = c ∷ a.front; same = ap (λ cs. c ∷ cs) a.same; clear = (h, a.clear) }

apart_then : (content middle rest : List ℕ) → Apart content middle → Apart middle rest → Apart content rest
apart_then content middle rest a b =
    record {
      front = a.front ++ b.front;
      same = a.same ∙ ap (λ cs. a.front ++ cs) b.same ∙ sym (append_assoc a.front b.front rest);
      clear = each-append IsNoEnding a.front b.front a.clear b.clear;
    }

-- what stands before the rest
before_front : (front rest : List ℕ) → text_before (front ++ rest) rest ≡ front
before_front front rest =
    let size : length (front ++ rest) - length rest ≡ length front = omega (arith, length-append front rest) in
    ap (λ n. take n (front ++ rest)) size ∙ take_at front rest (length front) refl

pub before_apart : (content rest : List ℕ) → Apart content rest → Each IsNoEnding (text_before content rest)
before_apart content rest a =
    subst (λ cs. Each IsNoEnding (text_before cs rest)) (sym a.same) (subst (Each IsNoEnding) (sym (before_front a.front rest)) a.clear)

pub after_all_apart : (test : ℕ → Bool) (content : List ℕ) → test 10 ≡ false → test 13 ≡ false → test 257 ≡ false → Apart content (after_all test content)
after_all_apart test content p q r =
    let n = prefix_len test content in
    record {
      front = take n content;
      same = sym (take-append-drop n content);
      clear = all_passed test IsNoEnding content (λ c h. no_ending_by test c p q r h);
    }

first_apart : (b : ℕ) (content : List ℕ) → is_eol b ≡ false → begins_with (b ∷ []) content ≡ true → Apart content (drop 1 content)
first_apart b [] h is = apart_here []
first_apart b (c ∷ cs) h is =
    let same : b ≡ c = eqb-true b c (and_parts (eqb b c) true is).0 in
    apart_more c cs cs (ap is_eol (sym same) ∙ h) (apart_here cs)

-- the same, with what follows the first byte
pub after_byte_apart : (b : ℕ) (content rest : List ℕ) → is_eol b ≡ false → begins_with (b ∷ []) content ≡ true
    → Apart (drop 1 content) rest → Apart content rest
after_byte_apart b content rest h is a = apart_then content (drop 1 content) rest (first_apart b content h is) a

pub apart_from : (content middle rest : List ℕ) → Apart content middle → Apart middle rest → Apart content rest
apart_from content middle rest a b = apart_then content middle rest a b

-- ---- white space

module _ (P : ℕ → Type 0) where
  spaces_fit : (cs : List ℕ) → Each P cs → Each P (after_spaces cs)
  spaces_fit cs p = each-drop P _ cs p

  ending_fits : (cs : List ℕ) → Each P cs → Each P (after_ending cs)
  ending_fits [] p = tt
  ending_fits (c ∷ cs) p = cond_both (is_eol c) (after_spaces cs) (c ∷ cs) (Each P) (λ _. spaces_fit cs p.1) (λ _. p)

  pub white_fits : (cs : List ℕ) → Each P cs → Each P (after_white cs)
  white_fits cs p = ending_fits (after_spaces cs) (spaces_fit cs p)

  -- ---- texts that are closed

  abbrev RestFits : Option (List ℕ) → Type 0
  RestFits o = WhereSome (Each P) o

  abbrev pub PartFits : Option Part → Type 0
  PartFits o = WhereSome (λ (p : Part). Each P p.text × Each P p.rest) o

  up_to_fits : (cs : List ℕ) (o : Option (List ℕ)) → Each P cs → RestFits o → PartFits (up_to cs o)
  up_to_fits cs None p q = tt
  up_to_fits cs (Some rest) p q = (each-take P _ cs p, q)

  closed_fits : (cs : List ℕ) (o : Option (List ℕ)) → Each P cs → RestFits o → PartFits (closed_by cs o)
  closed_fits cs None p q = tt
  closed_fits cs (Some rest) p q = (each-take P _ cs p, each-drop P 1 rest q)

  label_end_fits : (escaped : Bool) (cs : List ℕ) → Each P cs → RestFits (label_end escaped cs)
  label_end_fits escaped [] p = tt
  label_end_fits escaped (c ∷ cs) p =
      cond_both (ends_label escaped c) _ (label_end (may_escape escaped c) cs) RestFits
      (λ _. cond_both (eqb c 93) (Some (c ∷ cs)) None RestFits (λ _. p) (λ _. tt)) (λ _. label_end_fits (may_escape escaped c) cs p.1)

  if_label_fits : (o : Option Part) → PartFits o → PartFits (if_label o)
  if_label_fits None p = tt
  if_label_fits (Some found) p = cond_both (is_label found.text) (Some found) None PartFits (λ _. p) (λ _. tt)

  pub label_fits : (cs : List ℕ) → Each P cs → PartFits (label_at cs)
  label_fits [] p = tt
  label_fits (c ∷ cs) p =
      cond_both (eqb c 91) (if_label (closed_by cs (label_end false cs))) None PartFits
      (λ _. if_label_fits _ (closed_fits cs (label_end false cs) p.1 (label_end_fits false cs p.1))) (λ _. tt)

  title_end_fits : (close : ℕ) (escaped start : Bool) (cs : List ℕ) → Each P cs → RestFits (title_end close escaped start cs)
  title_end_fits close escaped start [] p = tt
  title_end_fits close escaped start (c ∷ cs) p =
      let more = title_end close (may_escape escaped c) (at_line_start start c) cs in
      cond_both (ends_title close escaped c) _ (cond (ends_blank_line start c) None more) RestFits
      (λ _. cond_both (eqb c close) (Some (c ∷ cs)) None RestFits (λ _. p) (λ _. tt))
      (λ _. cond_both (ends_blank_line start c) None more RestFits (λ _. tt) (λ _. title_end_fits close (may_escape escaped c) (at_line_start start c) cs p.1))

  title_until_fits : (close : Option ℕ) (cs : List ℕ) → Each P cs → PartFits (title_until close cs)
  title_until_fits None cs p = tt
  title_until_fits (Some close) cs p = closed_fits cs (title_end close false false cs) p (title_end_fits close false false cs p)

  pub title_fits : (cs : List ℕ) → Each P cs → PartFits (title_at cs)
  title_fits [] p = tt
  title_fits (c ∷ cs) p = title_until_fits (title_close c) cs p.1

-- ---- destinations, in which no line ending stands

abbrev pub DestinationFits : Option Part → Type 0
DestinationFits o = WhereSome (λ (p : Part). Each Plain p.text × Each Single p.rest) o

abbrev EndsApart : List ℕ → Option (List ℕ) → Type 0
EndsApart content o = WhereSome (λ rest. Apart content rest × Each Single rest) o

ends_more : (c : ℕ) (cs : List ℕ) (o : Option (List ℕ)) → is_eol c ≡ false → EndsApart cs o → EndsApart (c ∷ cs) o
ends_more c cs None h p = tt
ends_more c cs (Some rest) h p = (apart_more c cs rest h p.0, p.1)

angle_apart : (escaped : Bool) (cs : List ℕ) → Each Single cs → EndsApart cs (angle_end escaped cs)
angle_apart escaped [] p = tt
angle_apart escaped (c ∷ cs) p =
    cond_both (ends_angle escaped c) _ (angle_end (may_escape escaped c) cs) (EndsApart (c ∷ cs))
    (λ _. cond_both (eqb c 62) (Some (c ∷ cs)) None (EndsApart (c ∷ cs)) (λ _. (apart_here (c ∷ cs), p)) (λ _. tt))
    (λ h. ends_more c cs (angle_end (may_escape escaped c) cs) (or_parts (is_eol c) _ h).0 (angle_apart (may_escape escaped c) cs p.1))

bare_apart : (depth : Option ℕ) (escaped : Bool) (opened : ℕ) (cs : List ℕ) → Each Single cs → EndsApart cs (bare_end depth escaped opened cs)
bare_apart depth escaped opened [] p = cond_both (eqb opened 0) (Some []) None (EndsApart []) (λ _. (apart_here [], tt)) (λ _. tt)
bare_apart depth escaped opened (c ∷ cs) p =
    let now = open_after escaped opened c in
    let more = bare_end depth (may_escape escaped c) now cs in
    cond_both (ends_bare escaped opened c) _ (cond (is_too_deep depth now) None more) (EndsApart (c ∷ cs))
    (λ _. cond_both (eqb opened 0) (Some (c ∷ cs)) None (EndsApart (c ∷ cs)) (λ _. (apart_here (c ∷ cs), p)) (λ _. tt))
    (λ h. cond_both (is_too_deep depth now) None more (EndsApart (c ∷ cs)) (λ _. tt)
    (λ _. ends_more c cs more (or_parts _ (is_eol c) (or_parts _ _ (or_parts _ _ h).0).0).1
    (bare_apart depth (may_escape escaped c) now cs p.1)))

up_to_apart : (cs : List ℕ) (o : Option (List ℕ)) → Each Single cs → EndsApart cs o → DestinationFits (up_to cs o)
up_to_apart cs None p q = tt
up_to_apart cs (Some rest) p q = (each_plain (text_before cs rest) (each-take Single _ cs p) (before_apart cs rest q.0), q.1)

closed_apart : (cs : List ℕ) (o : Option (List ℕ)) → Each Single cs → EndsApart cs o → DestinationFits (closed_by cs o)
closed_apart cs None p q = tt
closed_apart cs (Some rest) p q = (each_plain (text_before cs rest) (each-take Single _ cs p) (before_apart cs rest q.0), each-drop Single 1 rest q.1)

unless_empty_fits : (text : List ℕ) (p : Part) → DestinationFits (Some p) → DestinationFits (unless_empty text p)
unless_empty_fits [] p h = tt
unless_empty_fits (c ∷ cs) p h = h

if_any_fits : (o : Option Part) → DestinationFits o → DestinationFits (if_any o)
if_any_fits None h = tt
if_any_fits (Some p) h = unless_empty_fits p.text p h

pub destination_fits : (depth : Option ℕ) (cs : List ℕ) → Each Single cs → DestinationFits (destination_at depth cs)
destination_fits depth [] p = tt
destination_fits depth (c ∷ cs) p =
    let bare = bare_end depth false 0 (c ∷ cs) in
    cond_both (eqb c 60) (closed_by cs (angle_end false cs)) (if_any (up_to (c ∷ cs) bare)) DestinationFits
    (λ _. closed_apart cs (angle_end false cs) p.1 (angle_apart false cs p.1))
    (λ _. if_any_fits (up_to (c ∷ cs) bare) (up_to_apart (c ∷ cs) bare p (bare_apart depth false 0 (c ∷ cs) p)))

-- ---- where something leads

abbrev pub TitleFits : Option (List ℕ) → Type 0
TitleFits o = WhereSome (Each Single) o

-- ---- definitions

abbrev pub DefinitionFits : Option Definition → Type 0
DefinitionFits o = WhereSome (λ (d : Definition). Each Plain d.destination × TitleFits d.title) o

definition_before_fits : (label destination : List ℕ) (title rest : Option (List ℕ)) → Each Plain destination → TitleFits title
    → DefinitionFits (definition_before label destination title rest)
definition_before_fits label destination title None p q = tt
definition_before_fits label destination title (Some rest) p q = (p, q)

with_title_fits : (label destination : List ℕ) (o : Option Part) → Each Plain destination → PartFits Single o → DefinitionFits (with_title label destination o)
with_title_fits label destination None p q = tt
with_title_fits label destination (Some title) p q = definition_before_fits label destination (Some title.text) (next_line title.rest) p q.0

or_untitled_fits : (label : List ℕ) (destination : Part) (o : Option Definition) → Each Plain destination.text → DefinitionFits o
    → DefinitionFits (or_definition_without_title label destination o)
or_untitled_fits label destination None p q = definition_before_fits label destination.text None (next_line destination.rest) p tt
or_untitled_fits label destination (Some d) p q = q

with_destination_fits : (label : List ℕ) (o : Option Part) → DestinationFits o → DefinitionFits (with_destination label o)
with_destination_fits label None p = tt
with_destination_fits label (Some destination) p =
    or_untitled_fits label destination (definition_with_title label destination) p.0
    (cond_both (begins_with_space destination.rest) _ None DefinitionFits
    (λ _. with_title_fits label destination.text (title_at (after_white destination.rest)) p.0
    (title_fits Single (after_white destination.rest) (white_fits Single destination.rest p.1)))
    (λ _. tt))

with_colon_fits : (label cs : List ℕ) → Each Single cs → DefinitionFits (with_colon label cs)
with_colon_fits label [] p = tt
with_colon_fits label (c ∷ cs) p =
    cond_both (eqb c 58) (with_destination label (destination_at None (after_white cs))) None DefinitionFits
    (λ _. with_destination_fits label (destination_at None (after_white cs)) (destination_fits None (after_white cs) (white_fits Single cs p.1))) (λ _. tt)

with_label_fits : (o : Option Part) → PartFits Single o → DefinitionFits (with_label o)
with_label_fits None p = tt
with_label_fits (Some label) p = with_colon_fits label.text label.rest p.1

pub definition_fits : (cs : List ℕ) → Each Single cs → DefinitionFits (definition_at cs)
definition_fits cs p = with_label_fits (label_at (after_spaces cs)) (label_fits Single (after_spaces cs) (spaces_fit Single cs p))

-- ---- the text of a code span

code_space_fits : (c : ℕ) → Single c → Plain (code_space c)
code_space_fits c p =
    cond_both (is_eol c || is_tab_column c) 32 c Plain (λ _. ((refl, refl), refl)) (λ h. (p, (or_parts (is_eol c) (is_tab_column c) h).0))

code_spaces_fit : (cs : List ℕ) → Each Single cs → Each Plain (map code_space cs)
code_spaces_fit [] p = tt
code_spaces_fit (c ∷ cs) p = (code_space_fits c p.0, code_spaces_fit cs p.1)

pub code_text_fits : (cs : List ℕ) → Each Single cs → Each Plain (code_text cs)
code_text_fits cs p =
    let all = map code_space cs in
    let q = code_spaces_fit cs p in
    cond_both (is_padded all) (take (length all - 2) (drop 1 all)) all (Each Plain) (λ _. each-take Plain _ (drop 1 all) (each-drop Plain 1 all q)) (λ _. q)
