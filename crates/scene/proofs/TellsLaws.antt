-- What text and table tell of a record is what the statements say.
use mathlib.Core.Bool.{Bool, true, false, cond}
use mathlib.Core.List.{List, [], ◌∷◌, ◌++◌, append_assoc, append-nil}
use mathlib.Core.Logic.{◌⊎◌, inl, inr}
use mathlib.Core.Path.{◌≡◌, refl, ap, sym, ◌∙◌, subst}
use Prim.Native.Nat.{ℕ, suc, ◌+◌, ◌≤◌, ◌<◌}
use native.Mathlib.Omega.{arith}
use borrow.Author.Tests.{eq-eqb, ne_eqb}
use lib.Ieee.{Float}
use lib.ListN.{length, length-append, take, drop, get_or, get_or-append, length-drop}
use lib.Seq.{take-append_seam, drop-append_seam, take-append-le, drop-append-le, get_or_at}
use Rattle.laws.proofs.NatLaws.{le_or_lt}
use Rattle.laws.specs.Bytes.{Bytes}
use Rattle.scene.proofs.AcceptLaws.{read_inv}
use Rattle.scene.proofs.BlockLaws.{statements_append}
use Rattle.scene.proofs.KeptLaws.{each_tail}
use Rattle.scene.proofs.PlaceLaws.{Says, Spelt, spelt_words, EntryRead, AllRead, all_read}
use Rattle.scene.specs.Links.{gives, hits, reals_used, reals_added, resolve, through, body_of, type_in, strings_in, reals_in, own_body, modifier_link, target_link, first_later, source}
use Rattle.scene.specs.Reading.{Entry, statements, newline, accepted, read_statements}
use Rattle.scene.specs.Record.{unless_none, first_real, nothing, string_place, record_of, records_from, records, reals, real_table, nth}
use Rattle.scene.specs.declared.Settings.{Settings}
use Rattle.scene.specs.Told.{told, tells}
use Rattle.scene.specs.Statement.{Literal, numbers, Body, primitive, alias, Statement}

-- ---- record n

pub records_length : (later es : List Entry) → length (records_from later es) ≡ length es
unfolding records_from
records_length later [] = refl
records_length later (e ∷ es) = length-append (records_from (later ++ e ∷ []) es) (record_of later e es ∷ []) ∙ (let h = records_length (later ++ e ∷ []) es in omega arith)

pub records_at : (later l : List Entry) (e : Entry) (x : List Entry) → get_or (records_from later (l ++ e ∷ x)) (length x) nothing ≡ record_of (later ++ l) e x
unfolding records_from
records_at later [] e x = get_or_at (records_from (later ++ e ∷ []) x) (record_of later e x) [] nothing (length x) (records_length (later ++ e ∷ []) x) ∙ ap (λ (z : List Entry). record_of z e x) (sym (append-nil later))
records_at later (y ∷ l) e x =
    let n = records_length (later ++ y ∷ []) (l ++ e ∷ x) in
    let m = length-append l (e ∷ x) in
    get_or-append (records_from (later ++ y ∷ []) (l ++ e ∷ x)) (record_of later y (l ++ e ∷ x) ∷ []) nothing (length x) (omega arith) ∙ records_at (later ++ y ∷ []) l e x ∙ ap (λ (z : List Entry). record_of z e x) (append_assoc later (y ∷ []) l)

-- ---- the source

pub own : (s : Statement) (d : List Statement) → body_of (source s d) ≡ own_body s.body d
own s d = go s.body refl
  where
    go : (b : Body) → s.body ≡ b → body_of (through b (s ∷ d) (λ x. resolve x d)) ≡ own_body b d
    go (primitive t ss rs) q = q
    go (alias x) q = refl

-- the source is a tail of the list
abbrev pub Tail : List Statement → List Statement → Type 0
Tail x D = (y : List Statement) × (D ≡ y ++ x)

tail_cons : (s : Statement) (x D : List Statement) → Tail x D → Tail x (s ∷ D)
tail_cons s x D (y, h) = (s ∷ y, ap {B = List Statement} (λ (z : List Statement). s ∷ z) h)

pub resolve_tail : (w : Bytes) (D : List Statement) → Tail (resolve w D) D
unfolding resolve
resolve_tail w [] = ([], refl)
resolve_tail w (s ∷ D) = go (hits w s) (resolve_tail w D) (λ x. resolve_tail x D)
  where
    body : (b : Body) → ((x : Bytes) → Tail (resolve x D) D) → Tail (through b (s ∷ D) (λ x. resolve x D)) (s ∷ D)
    body (primitive t ss rs) h = ([], refl)
    body (alias x) h = tail_cons s (resolve x D) D (h x)

    go : (c : Bool) → Tail (resolve w D) D → ((x : Bytes) → Tail (resolve x D) D) → Tail (cond c (through s.body (s ∷ D) (λ x. resolve x D)) (resolve w D)) (s ∷ D)
    go true h k = body s.body k
    go false h k = tail_cons s (resolve w D) D h

pub source_tail : (s : Statement) (d : List Statement) → Tail (source s d) (s ∷ d)
source_tail s d = go s.body
  where
    go : (b : Body) → Tail (through b (s ∷ d) (λ x. resolve x d)) (s ∷ d)
    go (primitive t ss rs) = ([], refl)
    go (alias x) = tail_cons s (resolve x d) d (resolve_tail x d)

tail_trans : (x l D d : List Statement) → D ≡ l ++ d → Tail x d → Tail x D
tail_trans x l D d q (y, h) = (l ++ y, q ∙ ap {B = List Statement} (λ (z : List Statement). l ++ z) h ∙ sym (append_assoc l y x))

pub tail_length : (x D : List Statement) → Tail x D → length x ≤ length D
tail_length x D (y, h) = omega (arith, ap length h, length-append y x)

-- ---- the reals

pub numbers_length : (fs : List Literal) → length (numbers fs) ≡ length fs
numbers_length [] = refl
numbers_length (f ∷ fs) = ap suc (numbers_length fs)

pub reals_count : (b : Body) → length (reals_in b) ≡ reals_added b
reals_count (primitive t ss rs) = numbers_length rs
reals_count (alias x) = refl

pub reals_length : (D : List Statement) → length (reals D) ≡ reals_used D
unfolding reals reals_used
reals_length [] = refl
reals_length (s ∷ D) = length-append (reals D) (reals_in s.body) ∙ (λ i. reals_length D i + reals_count s.body i)

reals_append : (y x : List Statement) → (t : List Float) × (reals (y ++ x) ≡ reals x ++ t)
unfolding reals
reals_append [] x = ([], sym (append-nil (reals x)))
reals_append (s ∷ y) x = let h = reals_append y x in (h.0 ++ reals_in s.body, ap {B = List Float} (λ (z : List Float). z ++ reals_in s.body) h.1 ∙ append_assoc (reals x) h.0 (reals_in s.body))

source_reals : (x D : List Statement) → Tail x D → take (length (reals_in (body_of x))) (drop (first_real x) (reals D)) ≡ reals_in (body_of x)
unfolding reals
source_reals [] D h = refl
source_reals (s ∷ x) D (y, h) = go (reals_in s.body) refl
  where
    k : (t : List Float) × (reals (y ++ s ∷ x) ≡ reals (s ∷ x) ++ t)
    k = reals_append y (s ∷ x)

    whole : reals D ≡ reals x ++ (reals_in s.body ++ k.0)
    whole = ap reals h ∙ k.1 ∙ append_assoc (reals x) (reals_in s.body) k.0

    at : drop (reals_used x) (reals D) ≡ reals_in s.body ++ k.0
    at = (λ i. drop (sym (reals_length x) i) (whole i)) ∙ drop-append_seam (reals x) (reals_in s.body ++ k.0)

    go : (rs : List Float) → reals_in s.body ≡ rs → take (length rs) (drop (unless_none rs (reals_used x)) (reals D)) ≡ rs
    go [] q = refl
    go (z ∷ rs) q = ap (take (length (z ∷ rs))) (at ∙ ap {B = List Float} (λ (w : List Float). w ++ k.0) q) ∙ take-append_seam (z ∷ rs) k.0

-- ---- the strings and the name

pub read_tail : (c : Bytes) (y x : List Entry) → AllRead c (y ++ x) → AllRead c x
read_tail c y x h = each_tail EntryRead c y x h

pub statements_length : (es : List Entry) → length (statements es) ≡ length es
unfolding statements
statements_length [] = refl
statements_length (e ∷ es) = ap suc (statements_length es)

pub string_here : (e : Entry) (es : List Entry) → string_place (e ∷ es) (suc (length (statements es))) ≡ e.places.string
unfolding string_place
string_here e es = rw (statements_length es, eq-eqb (suc (length es)) (suc (length es)) refl)

pub string_below : (e : Entry) (es : List Entry) (n : ℕ) → n ≤ length (statements es) → string_place (e ∷ es) n ≡ string_place es n
unfolding string_place
string_below e es n h = rw (ne_eqb n (suc (length es)) (λ q. omega (arith, statements_length es)))

-- the strings of what a name leads to stand where the table says
resolve_strings : (c : Bytes) (w : Bytes) (es : List Entry) → AllRead c es → Spelt c (string_place es (length (resolve w (statements es)))) (strings_in (body_of (resolve w (statements es))))
unfolding resolve statements
resolve_strings c w [] h = λ t. refl
resolve_strings c w (e ∷ es) h = go (hits w e.statement) (resolve_strings c w es h.1) (λ x. resolve_strings c x es h.1)
  where
    up : (x : Bytes) → Spelt c (string_place es (length (resolve x (statements es)))) (strings_in (body_of (resolve x (statements es)))) → Spelt c (string_place (e ∷ es) (length (resolve x (statements es)))) (strings_in (body_of (resolve x (statements es))))
    up x s = subst (λ n. Spelt c n (strings_in (body_of (resolve x (statements es))))) (sym (string_below e es (length (resolve x (statements es))) (tail_length (resolve x (statements es)) (statements es) (resolve_tail x (statements es))))) s

    body : (b : Body) → e.statement.body ≡ b → ((x : Bytes) → Spelt c (string_place es (length (resolve x (statements es)))) (strings_in (body_of (resolve x (statements es))))) → Spelt c (string_place (e ∷ es) (length (through b (e.statement ∷ statements es) (λ x. resolve x (statements es))))) (strings_in (body_of (through b (e.statement ∷ statements es) (λ x. resolve x (statements es)))))
    body (primitive t ss rs) q k = subst (λ n. Spelt c n (strings_in e.statement.body)) (sym (string_here e es)) h.0.strings
    body (alias x) q k = up x (k x)

    go : (b : Bool) → Spelt c (string_place es (length (resolve w (statements es)))) (strings_in (body_of (resolve w (statements es)))) → ((x : Bytes) → Spelt c (string_place es (length (resolve x (statements es)))) (strings_in (body_of (resolve x (statements es))))) → Spelt c (string_place (e ∷ es) (length (cond b (through e.statement.body (e.statement ∷ statements es) (λ x. resolve x (statements es))) (resolve w (statements es))))) (strings_in (body_of (cond b (through e.statement.body (e.statement ∷ statements es) (λ x. resolve x (statements es))) (resolve w (statements es)))))
    go true s k = body e.statement.body refl k
    go false s k = up w s

source_strings : (c : Bytes) (e : Entry) (x : List Entry) → AllRead c (e ∷ x) → Spelt c (string_place (e ∷ x) (length (source e.statement (statements x)))) (strings_in (body_of (source e.statement (statements x))))
source_strings c e x h = go e.statement.body
  where
    go : (b : Body) → Spelt c (string_place (e ∷ x) (length (through b (e.statement ∷ statements x) (λ y. resolve y (statements x))))) (strings_in (body_of (through b (e.statement ∷ statements x) (λ y. resolve y (statements x)))))
    go (primitive t ss rs) = subst (λ n. Spelt c n (strings_in e.statement.body)) (sym (string_here e x)) h.0.strings
    go (alias y) = subst (λ n. Spelt c n (strings_in (body_of (resolve y (statements x))))) (sym (string_below e x (length (resolve y (statements x))) (tail_length (resolve y (statements x)) (statements x) (resolve_tail y (statements x))))) (resolve_strings c y x h.1)

pub name_at : (text : Bytes) (k : ℕ) (n : Bytes) → Says (text ++ newline) k n → take (length n) (drop k text) ≡ n
name_at text k n h =
    let f = h.fits in
    let m = length-append text newline in
    let a : k ≤ length text = omega arith in
    let b : length n ≤ length (drop k text) = rw length-drop (omega arith) in
    sym (take-append-le (length n) (drop k text) newline b) ∙ ap (take (length n)) (sym (drop-append-le k text newline a) ∙ ap (drop k) (sym (append-nil (text ++ newline)))) ∙ h.says []

-- ---- what text and table tell of a record is what the statements say

pub tells_told : (text : Bytes) (es l : List Entry) (e : Entry) (x : List Entry) → AllRead (text ++ newline) es → es ≡ l ++ e ∷ x → tells text (real_table es) (record_of l e x) ≡ told (statements l) e.statement (statements x)
unfolding tells record_of told statements
tells_told text es l e x h q = λ i. record {
  type = type_in (own_body e.statement.body (statements x));
  modifier = modifier_link e.statement.modifier (statements x);
  target = target_link e.statement.body (statements x);
  name = name_at text e.places.name e.statement.name here.0.name i;
  string_count = length (strings_in (own_body e.statement.body (statements x)));
  strings = spelt_words text at (strings_in (own_body e.statement.body (statements x))) spelt i;
  real_count = length (reals_in (own_body e.statement.body (statements x)));
  reals = stored i;
  next = cond (gives e.statement) (first_later e.statement.name (statements l) (suc (length (statements x)))) 0;
}
  where
    at : ℕ
    at = string_place (e ∷ x) (length (source e.statement (statements x)))

    here : AllRead (text ++ newline) (e ∷ x)
    here = read_tail (text ++ newline) l (e ∷ x) (subst (AllRead (text ++ newline)) q h)

    spelt : Spelt (text ++ newline) at (strings_in (own_body e.statement.body (statements x)))
    spelt = subst (λ (b : Body). Spelt (text ++ newline) at (strings_in b)) (own e.statement (statements x)) (source_strings (text ++ newline) e x here)

    stored : take (length (reals_in (own_body e.statement.body (statements x)))) (drop (first_real (source e.statement (statements x))) (real_table es)) ≡ reals_in (own_body e.statement.body (statements x))
    stored = subst (λ (b : Body). take (length (reals_in b)) (drop (first_real (source e.statement (statements x))) (real_table es)) ≡ reals_in b) (own e.statement (statements x)) (source_reals (source e.statement (statements x)) (statements es) (tail_trans (source e.statement (statements x)) (statements l) (statements es) (e.statement ∷ statements x) (ap statements q ∙ statements_append l (e ∷ x)) (source_tail e.statement (statements x))))

-- ---- record n is that of the entry with n - 1 before it

pub record At (es : List Entry) (k : ℕ) : Type 0 where
  pub l : List Entry
  pub e : Entry
  pub x : List Entry
  pub split : es ≡ l ++ e ∷ x
  pub number : length x ≡ k

pub at : (es : List Entry) (k : ℕ) → k < length es → At es k
at [] k h = absurd (omega arith)
at (e ∷ es) k h = go (le_or_lt (length es) k) (at es k)
  where
    go : (length es ≤ k) ⊎ (k < length es) → (k < length es → At es k) → At (e ∷ es) k
    go (inl q) f = record { l = []; e = e; x = es; split = refl; number = omega arith }
    go (inr q) f = let a = f q in record { l = e ∷ a.l; e = a.e; x = a.x; split = ap {B = List Entry} (λ (z : List Entry). e ∷ z) a.split; number = a.number }

pub nth_at : (es l : List Entry) (e : Entry) (x : List Entry) (n : ℕ) → es ≡ l ++ e ∷ x → n ≡ suc (length x) → nth (records es) n ≡ record_of l e x
unfolding nth records
nth_at es l e x n q m = ap (nth (records es)) m ∙ (λ i. get_or (records_from [] (q i)) (length x) nothing) ∙ records_at [] l e x

pub split_statements : (es l : List Entry) (e : Entry) (x : List Entry) → es ≡ l ++ e ∷ x → statements es ≡ statements l ++ e.statement ∷ statements x
unfolding statements
split_statements es l e x q = ap statements q ∙ statements_append l (e ∷ x)

pub read_read : (r : Settings) (text : Bytes) (es : List Entry) → read_statements r text ≡ accepted es → AllRead (text ++ newline) es
read_read r text es e = let i = (read_inv r text es e).1 in subst (AllRead (text ++ newline)) i.3 (all_read r (text ++ newline) i.0 i.1)
