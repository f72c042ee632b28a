-- The statements in an order that keeps that of bound ones: nothing but numbering changes.
use mathlib.Core.List.{List, [], ◌∷◌, append-nil}
use mathlib.Core.Path.{◌≡◌, refl, ap, ◌∙◌, subst₂}
use lib.ListN.{length}
use Rattle.holding.proofs.SaysLaws.{alone_says}
use Rattle.holding.specs.Mattered.{Agree, alone}
use Rattle.laws.specs.Shuffle.{Shuffle}
use Rattle.rearrangement.proofs.ClearLaws.{saids_append}
use Rattle.rearrangement.proofs.FrontLaws.{Turned, turned}
use Rattle.rearrangement.proofs.RearrangeLaws.{renumbering, way_chain}
use Rattle.rearrangement.proofs.WayLaws.{Way}
use Rattle.rearrangement.specs.Cut.{Piece, saids}
use Rattle.rearrangement.specs.Order.{Apart, Ordered, Renumbering}
use Rattle.scene.specs.Statement.{Statement}
use Rattle.scene.specs.declared.Mode.TheVariants.{New}
use Rattle.scene.specs.declared.Settings.{Settings}

alone_said : (d : List Statement) → saids (alone d) ≡ d
unfolding saids alone
alone_said [] = refl
alone_said (s ∷ d) = saids_append (alone d) (record { number = length d; text = []; said = s ∷ [] } ∷ []) ∙ ap {B = List Statement} (λ (x : List Statement). s ∷ x) (alone_said d)

-- how a text is read does not matter here
settings : Settings
settings = record { mode = New; records = 0; reals = 0 }

module _ (d : List Statement) (new : List Piece) (shuffle : Shuffle (alone d) new) (ordered : Ordered new) where
  turn : Turned Apart (Way settings) [] (alone d) new
  turn = turned Apart (Way settings) (way_chain settings) new (alone d) [] 0 shuffle (alone_says d).rise ordered

  way : Way settings turn.number turn.back d (saids new)
  way = subst₂ (Way settings turn.number turn.back) (append-nil (saids (alone d)) ∙ alone_said d) (append-nil (saids new)) turn.way

  pub alone_agrees : (x : Renumbering (alone d) new) × Agree x.number d (saids new)
  unfolding renumbering
  alone_agrees = (
    renumbering settings (alone d) new turn,
    record {
      count = way.renamed.count;
      reals = way.reals;
      each = λ l s e q. let k = way.renamed.rows l s e q in (k.later, k.earlier, k.place, k.number, k.same);
    },
  )
