-- `host_scenes::tell_word` meets its contract.
use mathlib.Core.List.{[], ◌∷◌}
use mathlib.Core.Path.{ap}
use Rattle.lexer.specs.declared.Word.{Word}
use Rattle.host_scenes.proofs.tell_word.Goals as goal

pub returns : goal.returns
returns c = ap (λ (w : Word). w.place ∷ w.len ∷ []) c.next_from-word.ensures
