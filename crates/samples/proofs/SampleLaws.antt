-- The definitions compute: an exchange, the case of truck nine, a sphere named like a paint, and two surfaces of one name.
use mathlib.Core.Bool.{true}
use mathlib.Core.List.{List, [], ◌∷◌, ◌++◌}
use mathlib.Core.Logic.{inl, inr}
use mathlib.Core.Path.{◌≡◌, refl}
use Prim.Native.Nat.{ℕ}
use lib.Dec.{lit≤}
use lib.Ieee.{round, lt, le, eq, to_bits}
use Rattle.bits.specs.Bits.{same_reals}
use Rattle.comparison.specs.Compare.{changed, compared, lines_for}
use Rattle.content.specs.Content.{same_content, same_words}
use Rattle.keys.specs.Key as key
use Rattle.keys.specs.Key.{nth_of}
use Rattle.keys.specs.Rows.{rows_of, rows_to}
use Rattle.laws.specs.Bytes.{Bytes, bytes, same}
use Rattle.laws.specs.Runs.{all, past}
use Rattle.lexer.specs.Class.{is_blank, is_good, is_other}
use Rattle.lexer.specs.Word.{word_fault, word_at}
use Rattle.numeral.specs.Count.{count_of}
use Rattle.numeral.specs.Numeral.{numeral_of, well_formed, mantissa, exponent, coefficient, up, down, in_range, nearest, number_of}
use Rattle.numeral_parts.specs.Digits.{digits, is_digit, value_from}
use Rattle.numeral_parts.specs.Parts.{is_mantissa, is_exponent, before, behind, has, index_of, is_point, is_mark, is_sign, negative, unsigned}
use Rattle.scene.proofs.ExchangeLaws.{exchange_law}
use Rattle.scene.specs.Block.{in_block, given, referred, stands, share, shift}
use Rattle.scene.specs.Exchange.{Exchange, Exchanged, exchange_shift, statements_in}
use Rattle.scene.specs.HouseRules.{breach, breach_at, real_at, is_above0, is_at_least0, is0}
use Rattle.scene.specs.Links.{gives, hits, found, resolve, first_later, reals_used}
use Rattle.scene.specs.Reading.{Entry, read_statements, refused, run, statements}
use Rattle.scene.specs.Record.{entries, records, records_from, record_of, string_place, nth, real_table, reals, full_room}
use Rattle.samples.specs.Samples.{lamp, wall, panel, oak, grey, desk, ball, small, large, cutout}
use Rattle.scene.specs.Told.{tells, words_from, renumbered}
use Rattle.scene.specs.Types.{type_number, number_from, kind_of, strings_allowed, reals_allowed}
use Rattle.scene.specs.declared.Mode.TheVariants.{New, Archive}
use Rattle.scene.specs.declared.Settings.{Settings}
use Rattle.laws.specs.Runs as runs

-- unfolding this unfolds all that reading a text computes with
readings : Unit {0}
unfolding read_statements run statements gives hits found reals_used type_number number_from kind_of strings_allowed reals_allowed breach breach_at real_at is_above0 is_at_least0 is0 same all runs.run is_blank is_good word_fault count_of digits is_digit value_from numeral_of well_formed is_mantissa is_exponent mantissa exponent before behind has index_of is_point is_mark is_sign negative unsigned coefficient up down in_range nearest number_of round lt le eq
readings = tt

-- unfolding this unfolds all that a record, and what it tells, computes with
tables : Unit {0}
unfolding readings resolve first_later records records_from record_of string_place nth reals tells words_from word_at past is_other
tables = tt

abbrev room : Settings
room = full_room New

-- ---- an exchange

es : List Entry
es = entries (read_statements room (lamp ++ wall ++ panel))

lamp_first : Exchange room [] lamp wall panel es
unfolding es readings in_block given referred stands share
lamp_first = record {
  reads = refl;
  first = record { starts = inl refl; ends = (bytes "void light lamp 0 0 3 1 1 1", refl); first = (inl (lit≤ tt), (inl (lit≤ tt), (inl (lit≤ tt), tt))); last = (inl (lit≤ tt), (inl (lit≤ tt), (inr (lit≤ tt), tt))) };
  second = record { starts = inr (bytes "void light lamp 0 0 3 1 1 1", refl); ends = (bytes "# the wall \u{7f}\nvoid plastic wall\n0 0 5 .5 .5 .5 0 0", refl); first = (inl (lit≤ tt), (inl (lit≤ tt), (inr (lit≤ tt), tt))); last = (inl (lit≤ tt), (inr (lit≤ tt), (inr (lit≤ tt), tt))) };
  independent = record { first = refl; second = refl };
}

wall_first : Exchanged room [] lamp wall panel es
wall_first = exchange_law room [] lamp wall panel es lamp_first

-- what is told of the panel: its finish was 2 and is 1, and nothing else changed
panel_told : tells (wall ++ lamp ++ panel) (real_table (entries (read_statements room (wall ++ lamp ++ panel)))) (nth (records (entries (read_statements room (wall ++ lamp ++ panel)))) 3) ≡ renumbered (exchange_shift es [] lamp wall) (tells (lamp ++ wall ++ panel) (real_table es) (nth (records es) 3))
unfolding es tables in_block shift
panel_told = refl

-- ---- truck nine: the two finishes share a name, and the desk's finish changes from the later one to the other

twice : share (given (statements_in (entries (read_statements room (oak ++ grey ++ desk))) [] oak)) (given (statements_in (entries (read_statements room (oak ++ grey ++ desk))) oak grey) ++ referred (statements_in (entries (read_statements room (oak ++ grey ++ desk))) oak grey)) ≡ true
unfolding readings in_block given referred stands share
twice = refl

-- the desk's modifier, and the types of the two finishes
desk_facts : Bytes → List ℕ
desk_facts text =
    let rs = records (entries (read_statements room text)) in
    (nth rs 3).modifier ∷ (nth rs 1).type ∷ (nth rs 2).type ∷ []

oak_first : desk_facts (oak ++ grey ++ desk) ≡ 2 ∷ 15 ∷ 16 ∷ []
unfolding desk_facts tables
oak_first = refl

grey_first : desk_facts (grey ++ oak ++ desk) ≡ 2 ∷ 16 ∷ 15 ∷ []
unfolding desk_facts tables
grey_first = refl

-- ---- a sphere named like the paint: the panel's modifier is the paint, and neither has a next of its name

ball_facts : Bytes → List ℕ
ball_facts text =
    let rs = records (entries (read_statements room text)) in
    (nth rs 3).modifier ∷ (nth rs 1).next ∷ (nth rs 2).next ∷ []

ball_passed : ball_facts (wall ++ ball ++ panel) ≡ 1 ∷ 0 ∷ 0 ∷ []
unfolding ball_facts tables
ball_passed = refl

-- ---- two surfaces of one name give none and may be exchanged, but the comparison counts them: both have changed

knobs : List Entry
knobs = entries (read_statements room (small ++ large))

small_first : Exchange room [] small large [] knobs
unfolding knobs readings in_block given referred stands share
small_first = record {
  reads = refl;
  first = record { starts = inl refl; ends = (bytes "void sphere knob 0 0 4 0 0 0 1", refl); first = (inl (lit≤ tt), (inl (lit≤ tt), tt)); last = (inl (lit≤ tt), (inr (lit≤ tt), tt)) };
  second = record { starts = inr (bytes "void sphere knob 0 0 4 0 0 0 1", refl); ends = (bytes "void sphere knob 0 0 4 0 0 0 2", refl); first = (inl (lit≤ tt), (inr (lit≤ tt), tt)); last = (inr (lit≤ tt), (inr (lit≤ tt), tt)) };
  independent = record { first = refl; second = refl };
}

knobs_changed : compared (rows_of (small ++ large) knobs) (rows_of (large ++ small) (entries (read_statements room (large ++ small)))) ≡ record { key = nth_of (bytes "knob") 1; state = changed } ∷ record { key = nth_of (bytes "knob") 2; state = changed } ∷ []
unfolding knobs tables compared lines_for rows_to same_content same_words same_reals to_bits key.times key.found key.lower key.before key.insert key.insert_all
knobs_changed = refl

-- ---- a cut-out and an alias of it: the new reading refuses them at the type word, and the archive one reads both

cutout_refused : read_statements (full_room New) (oak ++ cutout) ≡ refused 28 47
unfolding readings
cutout_refused = refl

cutout_facts : Bytes → List ℕ
cutout_facts text =
    let rs = records (entries (read_statements (full_room Archive) text)) in
    (nth rs 2).type ∷ (nth rs 3).type ∷ (nth rs 3).target ∷ []

cutout_read : cutout_facts (oak ++ cutout) ≡ 24 ∷ 24 ∷ 2 ∷ []
unfolding cutout_facts tables
cutout_read = refl
