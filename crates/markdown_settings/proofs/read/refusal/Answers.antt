use Rattle.std.proofs.Common.{◌∙◌, inl, inr, refl, subst, sym}
use Rattle.clap.specs.Words.{IsAmong}
use Rattle.markdown_settings.proofs.read.refusal.Goals as goal

pub returns-in-DisplayHelp-clause-refused : goal.returns-in-DisplayHelp-clause-refused
returns-in-DisplayHelp-clause-refused c faults among =
    inl (subst (λ k. IsAmong k faults) (sym c.kind.ensures ∙ c.in-DisplayHelp.is) among, refl)

pub returns-in-DisplayVersion-clause-refused : goal.returns-in-DisplayVersion-clause-refused
returns-in-DisplayVersion-clause-refused c faults among =
    inr (subst (λ k. IsAmong k faults) (sym c.kind.ensures ∙ c.in-DisplayVersion.is) among, refl)
