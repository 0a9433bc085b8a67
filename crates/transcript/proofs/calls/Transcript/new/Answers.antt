use Rattle.std.proofs.Common.{[], ◌∷◌, sym, subst}
use Rattle.transcript.specs.Uses.{start, Use, made}
use Rattle.transcript.proofs.calls.Transcript.new.Goals as goal

pub returns-clause-started : goal.returns-clause-started
returns-clause-started g c = subst (Use _ _ (start ∷ [])) (sym c.fresh.ensures) made
