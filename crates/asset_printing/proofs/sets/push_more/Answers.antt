use Rattle.std.proofs.Common.{◌++◌, ℕ, [], ◌∷◌, List, get_or, sym, ap, ◌∙◌, take, string_bytes, append_assoc}
use Rattle.std.specs.Fmt.{decimal}
use Rattle.std.proofs.lemmas.List.{append-nil, take_more}
use Rattle.asset_names.specs.declared.names.Ob.{Ob}
use Rattle.asset_printing.specs.Printed.{AreNumbers, more_text}
use Rattle.asset_printing.proofs.SetLemmas.{none_small, one_more_small, more_text_pushed}
use Rattle.asset_printing.proofs.sets.push_more.Goals as goal

pub objects-init : goal.objects-init
unfolding more_text
objects-init c = (sym (append-nil (string_bytes c.args.text.now)), none_small)

pub objects-preserved : goal.objects-preserved
objects-preserved c =
    let objects = c.args.objects.now in
    let index = c.objects.x-index in
    let x : Ob = get_or objects index (record { 0 = 0 }) in
    let before = take index objects in
    let more = take_more objects index (record { 0 = 0 }) c.objects-test.true in
    let small : AreNumbers (before ++ x ∷ []) = one_more_small before x c.objects.invariant.1 c.push_further.ensures.small in
    let text =
    c.in_ok-push_further.ensures.text
    ∙ ap (λ (l : List ℕ). l ++ 44 ∷ decimal x.0) c.objects.invariant.0
    ∙ append_assoc (string_bytes c.args.text.now) (more_text before) (44 ∷ decimal x.0)
    ∙ ap (λ (l : List ℕ). string_bytes c.args.text.now ++ l) (sym (more_text_pushed before x)) in
    rw more (text, small)
