-- `event_translate::translate_read` meets its contract: what refuses, or the letters.
use Rattle.std.proofs.Common.{◌++◌, ℕ, drop, sym, ◌∙◌, ap, arith}
use Rattle.event_spec.specs.Events.{letters_of}
use Rattle.event_table.proofs.Rows.{table-refuses, cover-refuses, log-refuses, slice-refuses, call-served, called-refused, called-served}
use Rattle.event_table.specs.Masks.{Masks}
use Rattle.event_translate.proofs.Letters.{letters-length}
use Rattle.event_translate.proofs.Lines.{few-lines}
use Rattle.event_translate.proofs.translate_read.Goals as goal

pub returns-then-is_faulty_table : goal.returns-then-is_faulty_table
returns-then-is_faulty_table c = called-refused _ _ _ _ _ (table-refuses _ _ _ _ (sym c.is_faulty_table.ensures ∙ c.if-is_faulty_table.true))

pub masks_of-kinds-requires : goal.masks_of-kinds-requires
masks_of-kinds-requires c = (omega arith, few-lines _ _ (sym c.is_faulty_table.ensures ∙ c.if-is_faulty_table.false))

pub masks_of-drives-requires : goal.masks_of-drives-requires
masks_of-drives-requires c = (omega arith, few-lines _ _ (sym c.is_faulty_table.ensures ∙ c.if-is_faulty_table.false))

pub has_covered-requires : goal.has_covered-requires
has_covered-requires c =
    record { lines = few-lines _ _ (sym c.is_faulty_table.ensures ∙ c.if-is_faulty_table.false); of_kinds = c.masks_of-kinds.ensures; of_drives = c.masks_of-drives.ensures }

pub returns-then-has_covered : goal.returns-then-has_covered
returns-then-has_covered c =
    called-refused _ _ _ _ _ (cover-refuses _ _ _ _ (sym c.is_faulty_table.ensures ∙ c.if-is_faulty_table.false) (sym c.has_covered.ensures ∙ c.if-has_covered.true))

pub returns-then-has_unknown : goal.returns-then-has_unknown
returns-then-has_unknown c =
    let sound = sym c.is_faulty_table.ensures ∙ c.if-is_faulty_table.false in
    let masks : Masks c.args.events.now c.masks_of-kinds.result c.masks_of-drives.result = record { lines = few-lines _ _ sound; of_kinds = c.masks_of-kinds.ensures; of_drives = c.masks_of-drives.ensures } in
    called-refused _ _ _ _ _ (log-refuses _ _ _ _ sound (sym c.has_covered.ensures ∙ c.if-has_covered.false) (sym (c.has_unknown.ensures _ masks) ∙ c.if-has_unknown.true))

pub returns-then-letters-n : goal.returns-then-letters-n
returns-then-letters-n c =
    let sound = sym c.is_faulty_table.ensures ∙ c.if-is_faulty_table.false in
    let masks : Masks c.args.events.now c.masks_of-kinds.result c.masks_of-drives.result = record { lines = few-lines _ _ sound; of_kinds = c.masks_of-kinds.ensures; of_drives = c.masks_of-drives.ensures } in
    called-refused _ _ _ _ _
    (slice-refuses _ _ _ _ sound (sym c.has_covered.ensures ∙ c.if-has_covered.false) (sym (c.has_unknown.ensures _ masks) ∙ c.if-has_unknown.false) c.if-letters-n.true)

pub write_letters-requires : goal.write_letters-requires
write_letters-requires c =
    let sound = sym c.is_faulty_table.ensures ∙ c.if-is_faulty_table.false in
    let masks : Masks c.args.events.now c.masks_of-kinds.result c.masks_of-drives.result = record { lines = few-lines _ _ sound; of_kinds = c.masks_of-kinds.ensures; of_drives = c.masks_of-drives.ensures } in
    (masks, sym (c.has_unknown.ensures _ masks) ∙ c.if-has_unknown.false, c.if-letters-n.false)

pub returns : goal.returns
returns c =
    let a = c.args in
    let sound = sym c.is_faulty_table.ensures ∙ c.if-is_faulty_table.false in
    let masks : Masks c.args.events.now c.masks_of-kinds.result c.masks_of-drives.result = record { lines = few-lines _ _ sound; of_kinds = c.masks_of-kinds.ensures; of_drives = c.masks_of-drives.ensures } in
    called-served _ _ _ _
    (call-served _ _ _ _ sound (sym c.has_covered.ensures ∙ c.if-has_covered.false) (sym (c.has_unknown.ensures _ masks) ∙ c.if-has_unknown.false) c.if-letters-n.false) _
    (c.write_letters.ensures ∙ ap (λ (n : ℕ). letters_of a.events.now a.log.now ++ drop n a.letters.now) (sym (letters-length a.events.now a.log.now)))
