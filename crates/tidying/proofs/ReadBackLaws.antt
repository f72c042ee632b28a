-- The tidy text of an accepted text reads back: the same statements, so the same table but for places, and the same tidy text.
use mathlib.Core.List.{List, [], ◌∷◌, map, ◌++◌}
use mathlib.Core.Path.{◌≡◌, refl, ap, sym, ◌∙◌, subst}
use Prim.Native.Nat.{◌≤◌}
use borrow.Author.Tests.{le-leb}
use lib.ListN.{length}
use Rattle.laws.specs.Bytes.{Bytes}
use Rattle.lexer.specs.Class.{is_blank}
use Rattle.scene.proofs.AcceptLaws.{accept_forth, accept_back}
use Rattle.scene.proofs.BlockLaws.{join, statements_append}
use Rattle.scene.proofs.SyntaxLaws.{pass, parse, Sound}
use Rattle.scene.specs.Links.{modifier_link, target_link, source, own_body, type_in, strings_in, reals_in}
use Rattle.scene.specs.Phase.{idle}
use Rattle.scene.specs.Reading.{gap, Entry, statements, accepted, read_statements, newline}
use Rattle.scene.specs.Record.{Record, first_real, next_of, record_of, records_from, records, reals}
use Rattle.scene.specs.declared.Settings.{Settings}
use Rattle.scene.specs.Statement.{Statement}
use Rattle.sides.proofs.KnownLaws.{same_accepted}
use Rattle.sides.proofs.MixedLaws.{resolved}
use Rattle.sides.specs.Sides.{pairs}
use Rattle.tidying.proofs.ProperLaws.{StepProper, parse_proper}
use Rattle.tidying.proofs.StatementLaws.{statement_read}
use Rattle.tidying.specs.Proper.{AllProper}
use Rattle.tidying.specs.ReadBack.{without_places, ReadBackLaw}
use Rattle.tidying.specs.Tidy.{statement_text, tidy}

-- ---- the statements

tidy_parse : (r : Settings) (d : List Statement) → AllProper r.mode d → parse r gap idle (tidy d) ≡ pass gap idle d
unfolding tidy parse
tidy_parse r [] h = refl
tidy_parse r (s ∷ d) h = join r (tidy d) (statement_text s) d (s ∷ []) (tidy_parse r d h.1) (statement_read r s h.0)

tidy_whole : (r : Settings) (d : List Statement) → AllProper r.mode d → parse r gap idle (tidy d ++ newline) ≡ pass gap idle d
unfolding parse is_blank
tidy_whole r d h = join r (tidy d) newline d [] (tidy_parse r d h) refl

-- the tidy text of proper and sound statements reads as they are
pub tidy_reads : (r : Settings) (d : List Statement) → AllProper r.mode d → Sound r d → length (tidy d) ≤ 65536 → (es : List Entry) × (read_statements r (tidy d) ≡ accepted es) × (statements es ≡ d)
tidy_reads r d h s fits = accept_back r (tidy d) d (le-leb (length (tidy d)) 65536 fits) (tidy_whole r d h) s

-- and where that of proper ones is accepted, whatever the room, it reads as they are: the syntax alone says which statements are read
pub tidy_meant : (r : Settings) (d : List Statement) → AllProper r.mode d → (es : List Entry) → read_statements r (tidy d) ≡ accepted es → statements es ≡ d
tidy_meant r d h es e = cc ((accept_forth r (tidy d) es e).1, tidy_whole r d h)

-- what was accepted is proper
pub accepted_proper : (r : Settings) (text : Bytes) (es : List Entry) → read_statements r text ≡ accepted es → AllProper r.mode (statements es)
accepted_proper r text es e = (subst (StepProper r) (accept_forth r text es e).1 (parse_proper r (text ++ newline) gap idle tt tt)).2

-- ---- the table

-- a statement's record without its places, from the statements around it
abbrev placeless : List Statement → Statement → List Statement → Record
placeless later s earlier =
    let b = own_body s.body earlier in
    record {
      type = type_in b;
      modifier = modifier_link s.modifier earlier;
      target = target_link s.body earlier;
      name = 0;
      name_length = length s.name;
      string = 0;
      strings = length (strings_in b);
      real = first_real (source s earlier);
      reals = length (reals_in b);
      next = next_of later s earlier;
    }

placeless_from : List Statement → List Statement → List Record
placeless_from later [] = []
placeless_from later (s ∷ d) = placeless_from (later ++ s ∷ []) d ++ placeless later s d ∷ []

without_snoc : (rs : List Record) (r : Record) → map without_places (rs ++ r ∷ []) ≡ map without_places rs ++ without_places r ∷ []
without_snoc [] r = refl
without_snoc (s ∷ rs) r = ap {B = List Record} (λ (x : List Record). without_places s ∷ x) (without_snoc rs r)

-- without places the table says no more than the statements
table_placeless : (later es : List Entry) → map without_places (records_from later es) ≡ placeless_from (statements later) (statements es)
unfolding records_from record_of placeless_from statements
table_placeless later [] = refl
table_placeless later (e ∷ es) =
    without_snoc (records_from (later ++ e ∷ []) es) (record_of later e es)
    ∙ ap {B = List Record} (λ (x : List Record). x ++ placeless (statements later) e.statement (statements es) ∷ [])
    (table_placeless (later ++ e ∷ []) es ∙ ap (λ (l : List Statement). placeless_from l (statements es)) (statements_append later (e ∷ [])))

same_table : (es es' : List Entry) → statements es ≡ statements es' → map without_places (records es) ≡ map without_places (records es')
unfolding records statements
same_table es es' e = table_placeless [] es ∙ ap (placeless_from []) e ∙ sym (table_placeless [] es')

-- ---- the law

pub read_back : ReadBackLaw
read_back r text es e fits =
    let i = (resolved r text es e).reads in
    let b = tidy_reads r (statements es) (accepted_proper r text es i) (accept_forth r text es i).2 fits in
    record {
      entries = b.0;
      reads = same_accepted r text (tidy (statements es)) es b.0 e b.1 b.2;
      meant = b.2;
      table = same_table b.0 es b.2;
      reals = ap reals b.2;
      sides = ap pairs b.2;
    }
