-- What text and table together say of a statement: places, the line and the index of the first real are left out.
use Rattle.std.specs.Prelude.{List, [], ◌∷◌, ℕ, zero, suc, ◌+◌, Float, length, take, drop}
use Rattle.laws.specs.Bytes.{Bytes, part}
use Rattle.lexer.specs.Word.{word_at}
use Rattle.scene.specs.Links.{modifier_link, target_link, own_body, type_in, strings_in, reals_in}
use Rattle.scene.specs.Record.{Record, next_of}
use Rattle.scene.specs.Statement.{Statement}

pub record Told : Type 0 where
  pub type : ℕ
  pub modifier : ℕ
  pub target : ℕ
  pub name : Bytes
  pub string_count : ℕ
  pub strings : List Bytes
  pub real_count : ℕ
  pub reals : List Float
  pub next : ℕ

-- so many words of a text from a place on, as the lexer finds them
unfoldable pub words_from : Bytes → ℕ → ℕ → List Bytes
words_from text at zero = []
words_from text at (suc n) =
    let w = word_at text at in
    part text w.place w.len ∷ words_from text (w.place + w.len) n

-- the strings and the reals of a record
abbrev pub strings_of : Bytes → Record → List Bytes
strings_of text r = words_from text r.string r.strings

abbrev pub reals_of : List Float → Record → List Float
reals_of reals r = take r.reals (drop r.real reals)

-- what a text, the table of reals and a record say
unfoldable pub tells : Bytes → List Float → Record → Told
tells text reals r = record {
  type = r.type;
  modifier = r.modifier;
  target = r.target;
  name = part text r.name r.name_length;
  string_count = r.strings;
  strings = strings_of text r;
  real_count = r.reals;
  reals = reals_of reals r;
  next = r.next;
}

-- what the statements themselves say
unfoldable pub told : List Statement → Statement → List Statement → Told
told later s earlier =
    let b = own_body s.body earlier in
    record {
      type = type_in b;
      modifier = modifier_link s.modifier earlier;
      target = target_link s.body earlier;
      name = s.name;
      string_count = length (strings_in b);
      strings = strings_in b;
      real_count = length (reals_in b);
      reals = reals_in b;
      next = next_of later s earlier;
    }

-- the same with its links renumbered
abbrev pub renumbered : (ℕ → ℕ) → Told → Told
renumbered f t = record {
  type = t.type;
  modifier = f t.modifier;
  target = f t.target;
  name = t.name;
  string_count = t.string_count;
  strings = t.strings;
  real_count = t.real_count;
  reals = t.reals;
  next = f t.next;
}
