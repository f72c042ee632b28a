-- A text is accepted with statements exactly where it spells them and they are sound.
use mathlib.Core.List.{List, ◌++◌}
use mathlib.Core.Path.{sym, subst}
use borrow.Author.Tests.{le-leb, leb-true}
use lib.ListN.{length}
use Rattle.grammar.proofs.BegunLaws.{idle_spells, parse_stands}
use Rattle.grammar.proofs.MixtureLaws.{mixes_back, mixes_forth}
use Rattle.grammar.proofs.SoundLaws.{sound_back, sound_forth}
use Rattle.grammar.proofs.SpellsLaws.{spells_parse}
use Rattle.grammar.specs.Laws.{Accepts, GrammarLaw, WellFormed}
use Rattle.grammar.specs.Sound.{Mixes}
use Rattle.laws.specs.Bytes.{Bytes}
use Rattle.scene.proofs.AcceptLaws.{accept_back, accept_forth}
use Rattle.scene.specs.Phase.{idle}
use Rattle.scene.specs.Reading.{gap, newline, statements}
use Rattle.scene.specs.Statement.{Statement}
use Rattle.scene.specs.declared.Settings.{Settings}
use Rattle.sides.proofs.MixedLaws.{resolved, resolves}

module _ (r : Settings) (text : Bytes) (d : List Statement) where
  forth : Accepts r text d → WellFormed r text d
  forth (es, e, q) =
      let h = resolved r text es e in
      let a = accept_forth r text es h.reads in
      subst (WellFormed r text) q
      (record {
        short = leb-true (length text) 65536 a.0;
        spells = idle_spells r.mode (statements es) (text ++ newline) (parse_stands r (text ++ newline) gap idle (statements es) a.1);
        sound = sound_forth r (statements es) a.2;
        mixes = mixes_forth text es h.known h.loopless;
      })

  back : WellFormed r text d → Accepts r text d
  back h =
      let a = accept_back r text d (le-leb (length text) 65536 h.short) (spells_parse r d (text ++ newline) h.spells) (sound_back r d h.sound) in
      let m = mixes_back text a.0 (subst Mixes (sym a.2) h.mixes) in
      (a.0, resolves r text a.0 (record { reads = a.1; known = m.0; loopless = m.1 }), a.2)

pub exactly : GrammarLaw
exactly r text d = (forth r text d, back r text d)
