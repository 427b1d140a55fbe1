use Rattle.std.proofs.Common.{◌≡◌, ◌∙◌, List, false, sym, ap, subst}
use Rattle.engine_states.specs.declared.resolve.Name.{Name}
use Rattle.markdown_engine.proofs.Prelude.{AreOnce, is_registered}
use Rattle.markdown_engine.proofs.ResolverLaws.{once_if}
use Rattle.markdown_engine.proofs.tokenizer.Tokenizer.register_resolver.Goals as goal

pub returns-clause-once : goal.returns-clause-once
returns-clause-once g c once =
    let names = c.args.self.now.resolvers.items in
    let name = c.args.name in
    let there : is_registered name names ≡ false =
    ap (λ (z : List Name). is_registered name z) (sym c.deref.ensures.value) ∙ (sym c.contains.ensures.value ∙ c.if-contains.false) in
    subst (λ (z : List Name). AreOnce z) (sym c.push.ensures.items) (once_if _ name names there once)
