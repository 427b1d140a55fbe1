-- What the literals of a content are, and where there is none.
use Rattle.std.proofs.Common.{◌≡◌, ℕ, ◌+◌, ◌-◌, List, [], ◌∷◌, ◌++◌, map, Bool, true, false, cond, not, ◌&&◌, Option, None, Some, refl, ap, ◌∙◌, drop, length}
use Rattle.std.specs.Prelude.{codes, slice_index_or}
use Rattle.std.proofs.lemmas.Bool.{cond_both, cond-false}
use Rattle.markdown_options.specs.declared.configuration.Constructs.{Constructs}
use Rattle.definition_text.specs.InlineCode.{InlineCode, codes_of}
use Rattle.definition_inline.specs.Inline.{LiteralKind, Www, Protocol, InlineLeaf, Data, Literal, Leaf, Inlines, Cons, Found, leaf}
use Rattle.definition_inline.specs.GfmAutolinkLiteral.{LiteralStart, literal_start, or_start, begins_caselessly, may_precede_www, may_precede_protocol}
use Rattle.definition_inline.specs.GfmAutolinkLiteral.{literal_start_at, literal_name, literal_after, literal_at, leaf_without, addresses_before, with_literals}

-- what holds where there is none, and of every leaf with one literal where they are on
pub any_literal : (P : Option Found → Type 0) (on : Constructs) (content : List InlineCode) → P None
    → ((kind : LiteralKind) (text : List ℕ) (size : ℕ) → on.gfm_autolink_literal ≡ true → P (Some (leaf (Literal kind text ∷ []) size)))
    → P (literal_at on content)
any_literal P on [] none some = none
any_literal P on (c ∷ cs) none some =
    cond_both on.gfm_autolink_literal (literal_after c cs (literal_start_at c.previous (codes_of (c ∷ cs)))) None P
    (λ is. after is (literal_start_at c.previous (codes_of (c ∷ cs)))) (λ _. none)
  where
    after : on.gfm_autolink_literal ≡ true → (o : Option LiteralStart) → P (literal_after c cs o)
    after is None = none
    after is (Some start) =
        let last = slice_index_or (c ∷ cs) (start.size - 1) c in
        let name = literal_name (drop start.size (codes_of (c ∷ cs))) in
        cond_both _ (Some _) None P (λ _. some start.kind _ (start.size + length name) is) (λ _. none)

-- none where they are off
pub literals_off : (on : Constructs) (content : List InlineCode) → on.gfm_autolink_literal ≡ false → literal_at on content ≡ None
literals_off on [] off = refl
literals_off on (c ∷ cs) off = cond-false on.gfm_autolink_literal _ None off

-- none where the codes don't begin with a start
pub record HasNoStart (content : List ℕ) : Type 0 where
  pub www : begins_caselessly (codes "www.") content ≡ false
  pub http : begins_caselessly (codes "http://") content ≡ false
  pub https : begins_caselessly (codes "https://") content ≡ false

pub no_start_at : (previous : Option ℕ) (content : List ℕ) → HasNoStart content → literal_start_at previous content ≡ None
no_start_at previous content h =
    let start : Bool → Bool → Bool → Option LiteralStart =
    λ www http https. or_start (cond (may_precede_www previous && www) (Some (literal_start Www 4)) None)
    (cond (not (may_precede_protocol previous)) None (cond http (Some (literal_start Protocol 7)) (cond https (Some (literal_start Protocol 8)) None))) in
    ap (λ a. start a (begins_caselessly (codes "http://") content) (begins_caselessly (codes "https://") content)) h.www
    ∙ ap (λ a. start false a (begins_caselessly (codes "https://") content)) h.http
    ∙ ap (start false false) h.https
    ∙ all (may_precede_www previous) (may_precede_protocol previous)
  where
    all : (a b : Bool) → or_start (cond (a && false) (Some (literal_start Www 4)) None)
        (cond (not b) None (cond false (Some (literal_start Protocol 7)) (cond false (Some (literal_start Protocol 8)) None))) ≡ None
    all true true = refl
    all true false = refl
    all false true = refl
    all false false = refl

pub no_literal : (on : Constructs) (content : List InlineCode) → HasNoStart (codes_of content) → literal_at on content ≡ None
no_literal on [] h = refl
no_literal on (c ∷ cs) h =
    ap (λ o. cond on.gfm_autolink_literal (literal_after c cs o) None) (no_start_at c.previous (codes_of (c ∷ cs)) h) ∙ either on.gfm_autolink_literal
  where
    nothing : Option Found
    nothing = None

    either : (t : Bool) → cond t nothing nothing ≡ nothing
    either true = refl
    either false = refl

-- ---- leaves

-- a leaf where no literal may stand
module _ (P : InlineLeaf → List InlineLeaf → Type 0) (literal : (kind : LiteralKind) (text : List ℕ) → P (Literal kind text) (map Data text))
    (other : (part : InlineLeaf) → P part (part ∷ [])) where
  pub any_without : (part : InlineLeaf) → P part (leaf_without part)
  any_without (Literal kind text) = literal kind text
  any_without part = other part

-- a leaf before others, outside links: a byte belongs to the run of text
module _ (run : List ℕ) (is : Inlines) (P : InlineLeaf → Inlines → Type 0) (byte : (b : ℕ) → P (Data b) (with_literals (run ++ b ∷ []) is))
    (other : (part : InlineLeaf) → P part (addresses_before run (Cons (Leaf part) (with_literals [] is)))) where
  pub any_with : (part : InlineLeaf) → P part (with_literals run (Cons (Leaf part) is))
  any_with (Data b) = byte b
  any_with part = other part
