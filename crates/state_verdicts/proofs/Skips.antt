-- Where reading goes on twice.
use Rattle.std.proofs.Common.{◌≡◌, ◌∙◌, Bool, true, false, not, ◌==◌, ◌||◌, Option, Some, None, refl, sym, ap, if◌then◌else◌}
use Rattle.std.specs.BTreeMap.{is_at}
use Rattle.std.specs.Map.{lookup}
use Rattle.std.specs.Ordering.{nat_cmp}
use Rattle.engine_events.specs.declared.place.Point.{Point}
use Rattle.markdown_engine.specs.VirtualText.{Source, is_before, place_in, start_of_line}
use Rattle.state_verdicts.specs.Lines.{SkipsOnceLaw, StaysAtSkips}

module _ (s : Source) (stays : StaysAtSkips s) (p : Point) where
  abbrev there : Point
  there = place_in s.skips p

  same : there ≡ p → place_in s.skips there ≡ there
  same e = ap (place_in s.skips) e

  -- the line has a skip, that is after its start or not
  by_place : (q : Point) (after : Bool) → is_before (q.index, q.vs) p ≡ after → there ≡ (if is_before (q.index, q.vs) p then q else p)
      → place_in s.skips q ≡ q → place_in s.skips there ≡ there
  by_place q true h e stay =
      let f : there ≡ q = e ∙ ap (λ (b : Bool). if b then q else p) h in ap (place_in s.skips) f ∙ (stay ∙ sym f)
  by_place q false h e stay = same (e ∙ ap (λ (b : Bool). if b then q else p) h)

  by_skip : (o : Option Point) → lookup (is_at (nat_cmp p.index)) s.skips ≡ o → there ≡ start_of_line p (lookup (is_at (nat_cmp p.index)) s.skips)
      → place_in s.skips there ≡ there
  by_skip None h e = same (e ∙ ap (start_of_line p) h)
  by_skip (Some q) h e = by_place q (is_before (q.index, q.vs) p) refl (e ∙ ap (start_of_line p) h) (stays p q h)

  by_column : (within : Bool) → (not (p.column == 1) || not (p.vs == 0)) ≡ within → place_in s.skips there ≡ there
  by_column true h = same (ap (λ (b : Bool). if b then p else start_of_line p (lookup (is_at (nat_cmp p.index)) s.skips)) h)
  by_column false h = by_skip (lookup (is_at (nat_cmp p.index)) s.skips) refl
      (ap (λ (b : Bool). if b then p else start_of_line p (lookup (is_at (nat_cmp p.index)) s.skips)) h)

pub skips_once : SkipsOnceLaw
skips_once s to stays p = by_column s stays p (not (p.column == 1) || not (p.vs == 0)) refl
