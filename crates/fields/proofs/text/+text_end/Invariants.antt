use Rattle.fields.proofs.text.+text_end.Given as goal

abbrev pub decreases-text_end : goal.decreases-text_end
decreases-text_end l = l.columns
