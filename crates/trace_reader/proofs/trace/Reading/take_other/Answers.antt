use Rattle.std.proofs.Common.{◌≡◌, true, false, Bool, not, ◌&&◌, ◌||◌, refl, ap, sym, ◌∙◌}
use Rattle.trace_forms.specs.Files.{says_second}
use Rattle.trace_reader.proofs.Steps.{read_other}
use Rattle.trace_reader.proofs.trace.Reading.take_other.Goals as goal

-- where the trace has begun, the line changes nothing
begun : (s b says : Bool) → b ≡ true → s ≡ (s || (not b && says))
begun true b says is = refl
begun false b says is = sym (ap (λ t. not t && says) is)

-- nor where the form is told
told : (s b says : Bool) → s ≡ true → s ≡ (s || (not b && says))
told s b says is = is ∙ sym (ap (λ t. t || (not b && says)) is)

-- else it says the form
said : (s b says : Bool) → b ≡ false → s ≡ false → says ≡ (s || (not b && says))
said s b says not_begun not_told = sym (λ i. not_told i || (not (not_begun i) && says))

pub returns-then-self : goal.returns-then-self
returns-then-self c done names not_one read = read_other done names c.args.line.now c.args.self.now c.args.self.now
    not_one read refl refl refl (begun c.args.self.now.teams.is_second c.args.self.now.has_begun
    (says_second c.args.line.now) c.if-self.true)

pub returns-then-self-2 : goal.returns-then-self-2
returns-then-self-2 c done names not_one read = read_other done names c.args.line.now c.args.self.now c.args.self.now
    not_one read refl refl refl (told c.args.self.now.teams.is_second c.args.self.now.has_begun
    (says_second c.args.line.now) c.if-self-2.true)

pub returns : goal.returns
returns c done names not_one read = read_other done names c.args.line.now c.args.self.now _ not_one read refl refl refl
    (c.in_ok-self.ensures ∙ said c.args.self.now.teams.is_second c.args.self.now.has_begun
    (says_second c.args.line.now) c.if-self.false c.if-self-2.false)
