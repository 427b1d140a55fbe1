mod FlatOptions
