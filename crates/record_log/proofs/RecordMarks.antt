-- What the open marks keep of the rows, as changes are made and noted, and as they are taken back.
use Rattle.std.proofs.Common.{◌≡◌, ◌<◌, ℕ, List, [], ◌∷◌, ◌++◌, length, suc, map, arith, drop, Some, None, refl, sym, ap, subst, ◌∙◌}
use Rattle.std.specs.Prelude.{slice_get}
use Rattle.open_records.specs.OpenRecords.{RecordTable}
use Rattle.open_records.specs.Interfaces.{Interface}
use Rattle.record_rows.specs.Asking.{KeepsKeys}
use Rattle.record_rows.specs.Inside.{Kept, rows_of}
use Rattle.record_log.specs.MarkedRecords.{newest_of, older_marks}
use Rattle.record_rows.specs.Rows.{RowsView}
use Rattle.record_log.specs.SoundRows.{AllTallied, AreSoundRows, IsChange, IsInside, IsSoundRows}
use Rattle.record_log.specs.Tallies.{IsTallied}
use Rattle.record_log.specs.TakingBack.{AllKnown, AreKnown, IsInterfaceKnown, IsKnown, IsNameKnown, Sections, back, rows_at, table_of, tables_at}
use Rattle.record_log.specs.declared.record_change.RecordChange.{RecordChange}
use Rattle.record_log.specs.declared.record_change.RecordChange.TheVariants.{Closed, Counted, Cut, Made}
use Rattle.record_log.specs.declared.tally.Tally.{Tally}
use Rattle.undo_log.specs.AtMarks.{at_marks, undone}
use Rattle.undo_log.specs.Log.{carried, committed, last_change, marked, noted, without_last}

length-rows_at : (marks : Sections) (rows : RowsView) → length (rows_at marks rows) ≡ length marks
unfolding rows_at
length-rows_at [] rows = refl
length-rows_at (newest ∷ older) rows = ap suc (length-rows_at older (undone back newest.changes rows))

length-tables : (limit : ℕ) (all : List RowsView) → length (map (table_of limit) all) ≡ length all
length-tables limit [] = refl
length-tables limit (rows ∷ all) = ap suc (length-tables limit all)

-- each open mark keeps a table
pub length-tables_at : (limit : ℕ) (marks : Sections) (rows : RowsView) → length (tables_at limit marks rows) ≡ length marks
length-tables_at limit marks rows = length-tables limit (rows_at marks rows) ∙ length-rows_at marks rows

-- ---- what has cuts keeps some

pub interface_stays : (old new : Kept) → KeepsKeys old new → (interface : Interface) (both : _) → IsInterfaceKnown interface both old → IsInterfaceKnown interface both new
interface_stays old new keys interface None known = tt
interface_stays old new keys interface (Some both) known = keys.classes interface known

pub name_stays : (old new : Kept) → KeepsKeys old new → (name : ℕ) (place : _) → IsNameKnown name place old → IsNameKnown name place new
name_stays old new keys name None known = tt
name_stays old new keys name (Some place) known = keys.names name known

known_stays : (old new : Kept) → KeepsKeys old new → (change : RecordChange) → IsKnown change old → IsKnown change new
known_stays old new keys Made known = tt
known_stays old new keys (Counted place before) known = tt
known_stays old new keys (Closed places) known = tt
known_stays old new keys (Cut handle guid interface name) known = (interface_stays old new keys (handle, guid) interface known.0, name_stays old new keys handle name known.1)

are_known_stays : (old new : Kept) → KeepsKeys old new → (changes : List RecordChange) → AreKnown changes old → AreKnown changes new
are_known_stays old new keys [] known = tt
are_known_stays old new keys (change ∷ changes) known = (known_stays old new keys change known.0, are_known_stays old new keys changes known.1)

pub all_known_stays : (old new : Kept) → KeepsKeys old new → (marks : Sections) → AllKnown marks old → AllKnown marks new
unfolding AllKnown
all_known_stays old new keys [] known = tt
all_known_stays old new keys (newest ∷ older) known = (are_known_stays old new keys newest.changes known.0, all_known_stays old new keys older known.1)

pub keys_after : (old between new : Kept) → KeepsKeys old between → KeepsKeys between new → KeepsKeys old new
keys_after old between new first second = record {
  names = λ name has. second.names name (first.names name has);
  classes = λ interface has. second.classes interface (first.classes interface has);
}

-- ---- a new mark

rows_marked : (tally : Tally) (marks : Sections) (rows : RowsView) → rows_at (marked tally marks) rows ≡ rows ∷ rows_at marks rows
unfolding rows_at
rows_marked tally marks rows = refl

pub tables_marked : (limit : ℕ) (tally : Tally) (marks : Sections) (rows : RowsView) → tables_at limit (marked tally marks) rows ≡ table_of limit rows ∷ tables_at limit marks rows
tables_marked limit tally marks rows = ap (map (table_of limit)) (rows_marked tally marks rows)

pub inside_marked : (limit : ℕ) (tally : Tally) (kept : Kept) (marks : Sections) → IsInside limit tally kept marks → IsInside limit tally kept (marked tally marks)
unfolding AllKnown AllTallied
inside_marked limit tally kept marks inside = record {
  now = inside.now;
  tallied = inside.tallied;
  at_marks = rw (rows_marked tally marks (rows_of kept)) (inside.now, inside.at_marks);
  known = (tt, inside.known);
  carried = (inside.tallied, inside.carried);
}

-- ---- a change is noted

rows_noted : (marks : Sections) (change : RecordChange) (before after : RowsView) → back change after ≡ before → rows_at (noted change marks) after ≡ rows_at marks before
unfolding rows_at
rows_noted [] change before after is = refl
rows_noted (newest ∷ older) change before after is =
    ap (λ (rows : RowsView). at_marks back (λ carried (then : RowsView). then) (newest ∷ older) rows) is

all_known_noted : (marks : Sections) (change : RecordChange) (kept : Kept) → IsKnown change kept → AllKnown marks kept → AllKnown (noted change marks) kept
unfolding AllKnown
all_known_noted [] change kept known all = tt
all_known_noted (newest ∷ older) change kept known all = ((known, all.0), all.1)

all_tallied_noted : (marks : Sections) (change : RecordChange) (before after : RowsView) → back change after ≡ before → AllTallied marks before → AllTallied (noted change marks) after
unfolding AllTallied
all_tallied_noted [] change before after is all = tt
all_tallied_noted (newest ∷ older) change before after is all =
    subst (λ (rows : RowsView). IsTallied newest.carried (undone back newest.changes rows) × AllTallied older (undone back newest.changes rows)) (sym is) all

module _ (limit : ℕ) (old new : Kept) (marks : Sections) (change : RecordChange) (into : RecordTable → RecordTable) (is : IsChange limit change into old new) where
  -- the marks keep what they kept
  pub tables_noted : tables_at limit (noted change marks) (rows_of new) ≡ tables_at limit marks (rows_of old)
  tables_noted = ap (map (table_of limit)) (rows_noted marks change (rows_of old) (rows_of new) is.taken_back)

  pub inside_noted : (before after : Tally) → IsTallied after (rows_of new) → IsInside limit before old marks → IsInside limit after new (noted change marks)
  inside_noted before after tallied inside = record {
    now = is.sound;
    tallied = tallied;
    at_marks = rw (rows_noted marks change (rows_of old) (rows_of new) is.taken_back) inside.at_marks;
    known = all_known_noted marks change new is.known (all_known_stays old new is.keys marks inside.known);
    carried = all_tallied_noted marks change (rows_of old) (rows_of new) is.taken_back inside.carried;
  }

-- if what counts is as before, all is
pub inside_same : (limit : ℕ) (before after : Tally) (old new : Kept) (marks : Sections) → rows_of new ≡ rows_of old → KeepsKeys old new → IsTallied after (rows_of new) → IsInside limit before old marks → IsInside limit after new marks
inside_same limit before after old new marks same keys tallied inside = record {
  tallied = tallied;
  now = subst (IsSoundRows limit) (sym same) inside.now;
  at_marks = subst (λ (rows : RowsView). AreSoundRows limit (rows_at marks rows)) (sym same) inside.at_marks;
  known = all_known_stays old new keys marks inside.known;
  carried = subst (AllTallied marks) (sym same) inside.carried;
}

-- ---- the last change is taken back

-- the first of some changes, and the others
split : (changes : List RecordChange) (change : RecordChange) → slice_get changes 0 ≡ Some change → changes ≡ change ∷ drop 1 changes
split [] change is = absurd cc
split (first ∷ changes) change is = let same : first ≡ change = cc in ap (λ (c : RecordChange). c ∷ changes) same

none : (changes : List RecordChange) → slice_get changes 0 ≡ None → changes ≡ []
none [] is = refl
none (first ∷ changes) is = absurd cc

pub rows_taken : (marks : Sections) (change : RecordChange) (rows : RowsView) → last_change marks ≡ Some change → rows_at (without_last marks) (back change rows) ≡ rows_at marks rows
unfolding rows_at
rows_taken [] change rows is = absurd cc
rows_taken (newest ∷ older) change rows is =
    ap (λ (changes : List RecordChange). at_marks back (λ carried (then : RowsView). then) (record newest { changes = changes } ∷ older) rows) (sym (split newest.changes change is))

pub is_last_known : (marks : Sections) (change : RecordChange) (kept : Kept) → last_change marks ≡ Some change → AllKnown marks kept → IsKnown change kept
unfolding AllKnown
is_last_known [] change kept is all = absurd cc
is_last_known (newest ∷ older) change kept is all =
    let known : AreKnown (change ∷ drop 1 newest.changes) kept = subst (λ (changes : List RecordChange). AreKnown changes kept) (split newest.changes change is) all.0 in
    known.0

pub all_known_taken : (marks : Sections) (change : RecordChange) (kept : Kept) → last_change marks ≡ Some change → AllKnown marks kept → AllKnown (without_last marks) kept
unfolding AllKnown
all_known_taken [] change kept is all = absurd cc
all_known_taken (newest ∷ older) change kept is all =
    let known : AreKnown (change ∷ drop 1 newest.changes) kept = subst (λ (changes : List RecordChange). AreKnown changes kept) (split newest.changes change is) all.0 in
    (known.1, all.1)

pub all_tallied_taken : (marks : Sections) (change : RecordChange) (rows : RowsView) → last_change marks ≡ Some change → AllTallied marks rows → AllTallied (without_last marks) (back change rows)
unfolding AllTallied
all_tallied_taken [] change rows is all = absurd cc
all_tallied_taken (newest ∷ older) change rows is all =
    subst (λ (changes : List RecordChange). IsTallied newest.carried (undone back changes rows) × AllTallied older (undone back changes rows)) (split newest.changes change is) all

-- the tally of the newest mark, once nothing is left to take back
pub tallied_at_mark : (marks : Sections) (tally : Tally) (rows : RowsView) → last_change marks ≡ None → carried marks ≡ Some tally → AllTallied marks rows → IsTallied tally rows
unfolding AllTallied
tallied_at_mark [] tally rows none is all = absurd cc
tallied_at_mark (newest ∷ older) tally rows left is all =
    let same : newest.carried ≡ tally = cc in
    let tallied = subst (λ (changes : List RecordChange). IsTallied newest.carried (undone back changes rows)) (none newest.changes left) all.0 in
    subst (λ (t : Tally). IsTallied t rows) same tallied

-- how many changes were noted since the newest mark
abbrev pub count_left : Sections → ℕ
count_left [] = 0
count_left (newest ∷ older) = length newest.changes

pub fewer_left : (marks : Sections) (change : RecordChange) → last_change marks ≡ Some change → count_left (without_last marks) < count_left marks
fewer_left [] change is = absurd cc
fewer_left (newest ∷ older) change is =
    let whole : length newest.changes ≡ length (change ∷ drop 1 newest.changes) = ap length (split newest.changes change is) in
    omega (arith, whole)

-- the rows at the newest mark, or those now if none is open
abbrev pub newest_rows : List RowsView → RowsView → RowsView
newest_rows [] now = now
newest_rows (kept ∷ older) now = kept

-- once nothing is left, the rows are those at the newest mark, and nothing is taken out
pub all_taken : (marks : Sections) (rows : RowsView) → last_change marks ≡ None → newest_rows (rows_at marks rows) rows ≡ rows
unfolding rows_at
all_taken [] rows is = refl
all_taken (newest ∷ older) rows is = ap (λ (changes : List RecordChange). undone back changes rows) (none newest.changes is)

pub without_none : (marks : Sections) → last_change marks ≡ None → without_last marks ≡ marks
without_none [] is = refl
without_none (newest ∷ older) is =
    let empty : newest.changes ≡ [] = none newest.changes is in
    ap (λ (changes : List RecordChange). record newest { changes = changes } ∷ older) (ap (drop 1) empty ∙ sym empty)

-- if something was noted, a mark is open, and what it keeps is asked for, not the rows now
pub newest_stays : (marks : Sections) (all : List RowsView) (change : RecordChange) (rows a b : RowsView) → rows_at marks rows ≡ all → last_change marks ≡ Some change → newest_rows all a ≡ newest_rows all b
unfolding rows_at
newest_stays [] all change rows a b are is = absurd cc
newest_stays (newest ∷ older) [] change rows a b are is = absurd cc
newest_stays (newest ∷ older) (first ∷ all) change rows a b are is = refl

pub newest_table : (limit : ℕ) (all : List RowsView) (now : RowsView) → newest_of (map (table_of limit) all) (table_of limit now) ≡ table_of limit (newest_rows all now)
newest_table limit [] now = refl
newest_table limit (first ∷ all) now = refl

pub sound_newest : (limit : ℕ) (all : List RowsView) (now : RowsView) → AreSoundRows limit all → IsSoundRows limit now → IsSoundRows limit (newest_rows all now)
sound_newest limit [] now sound here = here
sound_newest limit (first ∷ all) now sound here = sound.0

-- ---- the newest mark is spent

abbrev pub older_rows : List RowsView → List RowsView
older_rows [] = []
older_rows (first ∷ all) = all

pub older_tables : (limit : ℕ) (all : List RowsView) → older_marks (map (table_of limit) all) ≡ map (table_of limit) (older_rows all)
older_tables limit [] = refl
older_tables limit (first ∷ all) = refl

pub sound_older : (limit : ℕ) (all : List RowsView) → AreSoundRows limit all → AreSoundRows limit (older_rows all)
sound_older limit [] sound = tt
sound_older limit (first ∷ all) sound = sound.1

undone-append : (later earlier : List RecordChange) (rows : RowsView) → undone back (later ++ earlier) rows ≡ undone back earlier (undone back later rows)
undone-append [] earlier rows = refl
undone-append (change ∷ later) earlier rows = undone-append later earlier (back change rows)

known_both : (later earlier : List RecordChange) (kept : Kept) → AreKnown later kept → AreKnown earlier kept → AreKnown (later ++ earlier) kept
known_both [] earlier kept first second = second
known_both (change ∷ later) earlier kept first second = (first.0, known_both later earlier kept first.1 second)

pub rows_committed : (marks : Sections) (rows : RowsView) → rows_at (committed marks) rows ≡ older_rows (rows_at marks rows)
unfolding rows_at
rows_committed [] rows = refl
rows_committed (newest ∷ []) rows = refl
rows_committed (newest ∷ (next ∷ older)) rows =
    ap (λ (then : RowsView). then ∷ at_marks back (λ carried (r : RowsView). r) older then) (undone-append newest.changes next.changes rows)

pub all_known_committed : (marks : Sections) (kept : Kept) → AllKnown marks kept → AllKnown (committed marks) kept
unfolding AllKnown
all_known_committed [] kept all = tt
all_known_committed (newest ∷ []) kept all = tt
all_known_committed (newest ∷ (next ∷ older)) kept all = (known_both newest.changes next.changes kept all.0 all.1.0, all.1.1)

all_tallied_committed : (marks : Sections) (rows : RowsView) → AllTallied marks rows → AllTallied (committed marks) rows
unfolding AllTallied
all_tallied_committed [] rows all = tt
all_tallied_committed (newest ∷ []) rows all = tt
all_tallied_committed (newest ∷ (next ∷ older)) rows all =
    subst (λ (then : RowsView). IsTallied next.carried then × AllTallied older then) (sym (undone-append newest.changes next.changes rows)) all.1

pub tables_committed : (limit : ℕ) (marks : Sections) (rows : RowsView) → tables_at limit (committed marks) rows ≡ older_marks (tables_at limit marks rows)
tables_committed limit marks rows = ap (map (table_of limit)) (rows_committed marks rows) ∙ sym (older_tables limit (rows_at marks rows))

pub inside_committed : (limit : ℕ) (tally : Tally) (kept : Kept) (marks : Sections) → IsInside limit tally kept marks → IsInside limit tally kept (committed marks)
inside_committed limit tally kept marks inside = record {
  now = inside.now;
  tallied = inside.tallied;
  at_marks = rw (rows_committed marks (rows_of kept)) (sound_older limit (rows_at marks (rows_of kept)) inside.at_marks);
  known = all_known_committed marks kept inside.known;
  carried = all_tallied_committed marks (rows_of kept) inside.carried;
}

-- ---- no mark is open

pub tables_none : (limit : ℕ) (marks : Sections) (rows : RowsView) → marks ≡ [] → tables_at limit marks rows ≡ []
unfolding rows_at
tables_none limit [] rows is = refl
tables_none limit (newest ∷ older) rows is = absurd cc

pub inside_none : (limit : ℕ) (tally : Tally) (kept : Kept) (marks : Sections) → marks ≡ [] → IsSoundRows limit (rows_of kept) → IsTallied tally (rows_of kept) → IsInside limit tally kept marks
unfolding rows_at AllKnown AllTallied
inside_none limit tally kept [] is sound tallied = record { now = sound; tallied = tallied; at_marks = tt; known = tt; carried = tt }
inside_none limit tally kept (newest ∷ older) is sound tallied = absurd cc

-- if no mark keeps anything, none is open
pub none_open : (limit : ℕ) (marks : Sections) (rows : RowsView) (kept : List RecordTable) → tables_at limit marks rows ≡ kept → kept ≡ [] → marks ≡ []
unfolding rows_at
none_open limit [] rows kept are is = refl
none_open limit (newest ∷ older) rows kept are is = absurd cc
